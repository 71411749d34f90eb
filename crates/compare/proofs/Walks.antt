-- Two books walked side by side, from one offer at or below a price to the next.
--
-- In order: the offers at or below a price from a row on, at a row that has one, at one that has none and at the end; how the next row is
-- found; how far a walk is, how it goes on and how it ends.
-- Assumes nothing.
use mathlib.Core.Path.{◌≡◌, refl, sym, ap, ap₂, ◌∙◌}
use mathlib.Core.Bool.{true, false}
use mathlib.Core.List.{List, [], ◌∷◌}
use Prim.Native.Nat.{ℕ, zero, suc, ◌≤◌, ◌<◌}
use native.Mathlib.Nat.{le_refl, le_trans, le-suc, le_of_suc-le-suc, not-suc-le-zero}
use native.Mathlib.Omega.{arith}
use lib.ListN.{length, drop, drop_of_length-le}
use Rattle.laws.proofs.Cases.{cond-true, cond-false}
use Rattle.values.specs.Contents.{offer_at}
use Rattle.values.specs.declared.place.Offer.{Offer}
use Rattle.call.specs.Losers.{to_price}
use Rattle.compare.specs.Same.{same_offer}
use Rattle.compare.specs.Comparison.{standing, standing_compared, offers_compared}
use Rattle.compare.specs.inner.Walk.{standing_from, NextTo}
use Rattle.compare.specs.declared.Comparison.TheVariants.{Applies, OffersDiffer, OnlyFirst, OnlySecond}

-- ---- from a row on

-- the offers from a row on are its own and those behind
drop-row : (offers : List Offer) (row : ℕ) → row < length offers → drop row offers ≡ offer_at offers row ∷ drop (suc row) offers
drop-row [] row l = absurd (not-suc-le-zero l)
drop-row (o ∷ offers) zero l = refl
drop-row (o ∷ offers) (suc row) l = drop-row offers row (le_of_suc-le-suc l)

module _ (p : ℕ) (offers : List Offer) (row : ℕ) where
  standing-ends : length offers ≤ row → standing_from p offers row ≡ []
  unfolding standing_from standing
  standing-ends l = ap (standing p row) (drop_of_length-le offers l)

  module _ (l : row < length offers) where
    -- a row at or below p comes first
    standing_here : to_price p (offer_at offers row).price ≡ true
        → standing_from p offers row ≡ record { row = row; offer = offer_at offers row } ∷ standing_from p offers (suc row)
    unfolding standing_from standing
    standing_here e = ap (standing p row) (drop-row offers row l) ∙ cond-true _ _ _ e

    -- one that is not is passed over
    standing-past : to_price p (offer_at offers row).price ≡ false → standing_from p offers row ≡ standing_from p offers (suc row)
    unfolding standing_from standing
    standing-past e = ap (standing p row) (drop-row offers row l) ∙ cond-false _ _ _ e

-- ---- the next row

-- from a row on to another, no offer is at or below p
pub record Passed (p : ℕ) (offers : List Offer) (from row : ℕ) : Type 0 where
  pub least : from ≤ row
  pub most : row ≤ length offers
  pub none : standing_from p offers from ≡ standing_from p offers row

module _ (p : ℕ) (offers : List Offer) (from : ℕ) where
  pub passed_none : from ≤ length offers → Passed p offers from from
  passed_none l = record { least = le_refl from; most = l; none = refl }

  pub passed-more : (row : ℕ) → Passed p offers from row → row < length offers → to_price p (offer_at offers row).price ≡ false
      → Passed p offers from (suc row)
  passed-more row s l e =
      record { least = le_trans s.least (le-suc row); most = l; none = s.none ∙ standing-past p offers row l e }

  pub next_here : (row : ℕ) → Passed p offers from row → to_price p (offer_at offers row).price ≡ true → NextTo p offers from row
  next_here row s e = record { least = s.least; most = s.most; none = s.none; there = λ l. e }

  -- past the last row there is none
  pub next-none : (row n : ℕ) → Passed p offers from row → n ≡ row → length offers ≡ n → NextTo p offers from n
  next-none row n s e f =
      record {
        least = omega (arith, s.least);
        most = omega (arith, s.most);
        none = rw e s.none;
        there = λ h. absurd (omega (arith, h));
      }

-- ---- the walk

-- both books are walked up to the rows i and j, each the next at or below p or the end, and so many offers were shared before
pub record Walked (p : ℕ) (xs ys : List Offer) (i j shared : ℕ) : Type 0 where
  pub few : shared ≤ i
  pub most : i ≤ length xs
  pub most' : j ≤ length ys
  pub here : i < length xs → to_price p (offer_at xs i).price ≡ true
  pub here' : j < length ys → to_price p (offer_at ys j).price ≡ true
  pub rest : offers_compared p xs ys ≡ standing_compared p shared (standing_from p xs i) (standing_from p ys j)

module _ (p : ℕ) (xs ys : List Offer) where
  pub walked_none : (i j : ℕ) → NextTo p xs 0 i → NextTo p ys 0 j → Walked p xs ys i j 0
  unfolding offers_compared standing_from
  walked_none i j s t =
      record {
        few = omega arith;
        most = s.most;
        most' = t.most;
        here = s.there;
        here' = t.there;
        rest = ap₂ (standing_compared p 0) s.none t.none;
      }

  module _ (i j shared : ℕ) (w : Walked p xs ys i j shared) where
    both-here : i < length xs → j < length ys
        → offers_compared p xs ys
        ≡ standing_compared p shared (record { row = i; offer = offer_at xs i } ∷ standing_from p xs (suc i))
        (record { row = j; offer = offer_at ys j } ∷ standing_from p ys (suc j))
    both-here l m =
        w.rest ∙ ap₂ (standing_compared p shared) (standing_here p xs i l (w.here l)) (standing_here p ys j m (w.here' m))

    -- offers that agree are shared, and the walk goes on
    pub walked_more : (i' j' : ℕ) → i < length xs → j < length ys → same_offer (offer_at xs i) (offer_at ys j) ≡ true
        → NextTo p xs (suc i) i' → NextTo p ys (suc j) j' → Walked p xs ys i' j' (suc shared)
    unfolding standing_compared
    walked_more i' j' l m e s t =
        record {
          few = omega (arith, w.few, s.least);
          most = s.most;
          most' = t.most;
          here = s.there;
          here' = t.there;
          rest = both-here l m ∙ cond-true _ _ _ e ∙ ap₂ (standing_compared p (suc shared)) s.none t.none;
        }

    -- offers that do not end it
    pub walked-differ : i < length xs → j < length ys → same_offer (offer_at xs i) (offer_at ys j) ≡ false
        → OffersDiffer i j ≡ offers_compared p xs ys
    unfolding standing_compared
    walked-differ l m e = sym (both-here l m ∙ cond-false _ _ _ e)

    pub walked-first : i < length xs → length ys ≤ j → OnlyFirst i ≡ offers_compared p xs ys
    unfolding standing_compared
    walked-first l m =
        sym (w.rest ∙ ap₂ (standing_compared p shared) (standing_here p xs i l (w.here l)) (standing-ends p ys j m))

    pub walked-second : length xs ≤ i → j < length ys → OnlySecond j ≡ offers_compared p xs ys
    unfolding standing_compared
    walked-second l m =
        sym (w.rest ∙ ap₂ (standing_compared p shared) (standing-ends p xs i l) (standing_here p ys j m (w.here' m)))

    pub walked_all : length xs ≤ i → length ys ≤ j → Applies p shared ≡ offers_compared p xs ys
    unfolding standing_compared
    walked_all l m = sym (w.rest ∙ ap₂ (standing_compared p shared) (standing-ends p xs i l) (standing-ends p ys j m))
