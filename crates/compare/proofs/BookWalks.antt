-- The walk through two books of n and of m rows, as the code counts them.
--
-- In order: how far a walk is; how it starts, goes on and ends.
-- Assumes nothing.
use mathlib.Core.Path.{◌≡◌, sym, ap₂, ◌∙◌}
use mathlib.Core.Bool.{Bool, true, false}
use mathlib.Core.List.{List}
use Prim.Native.Nat.{ℕ, suc, ◌≤◌, ◌<◌}
use native.Mathlib.Omega.{arith}
use lib.ListN.{length}
use Rattle.values.specs.Contents.{offer_at}
use Rattle.values.specs.declared.place.Offer.{Offer}
use Rattle.layout.specs.Form.{edition_of}
use Rattle.layout.specs.Read.{row_offer, row_offers}
use Rattle.layout.proofs.Contained.{length-row_offers, offer_at-row_offers}
use Rattle.compare.specs.Same.{same_offer}
use Rattle.compare.specs.Comparison.{offers_compared}
use Rattle.compare.specs.inner.Walk.{NextTo}
use Rattle.compare.specs.declared.Comparison.TheVariants.{Applies, OffersDiffer, OnlyFirst, OnlySecond}
use Rattle.compare.proofs.Walks.{Walked, walked_none, walked_more, walked-differ, walked-first, walked-second, walked_all}

module _ (p : ℕ) (b : List ℕ) (n : ℕ) (b' : List ℕ) (m : ℕ) where
  abbrev xs : List Offer
  xs = row_offers b (edition_of b) 1 n

  abbrev ys : List Offer
  ys = row_offers b' (edition_of b') 1 m

  -- both books are walked up to the rows i and j
  pub record Walk (i j shared : ℕ) : Type 0 where
    pub few : shared ≤ i
    pub most : i ≤ n
    pub most' : j ≤ m
    pub walked : Walked p xs ys i j shared

  walk_of : (i j shared : ℕ) → Walked p xs ys i j shared → Walk i j shared
  walk_of i j shared w =
      record {
        few = w.few;
        most = omega (arith, w.most, length-row_offers b (edition_of b) 1 n);
        most' = omega (arith, w.most', length-row_offers b' (edition_of b') 1 m);
        walked = w;
      }

  pub walk_none : (i j : ℕ) → NextTo p xs 0 i → NextTo p ys 0 j → Walk i j 0
  walk_none i j s t = walk_of i j 0 (walked_none p xs ys i j s t)

  module _ (i j shared : ℕ) (w : Walk i j shared) where
    inside : i < n → i < length xs
    inside l = omega (arith, length-row_offers b (edition_of b) 1 n)

    inside' : j < m → j < length ys
    inside' l = omega (arith, length-row_offers b' (edition_of b') 1 m)

    outside : n ≤ i → length xs ≤ i
    outside l = omega (arith, length-row_offers b (edition_of b) 1 n)

    outside' : m ≤ j → length ys ≤ j
    outside' l = omega (arith, length-row_offers b' (edition_of b') 1 m)

    own : (t : Bool) → i < n → j < m → t ≡ same_offer (row_offer b (edition_of b) 1 i) (row_offer b' (edition_of b') 1 j) → same_offer (offer_at xs i) (offer_at ys j) ≡ t
    own t l k e = ap₂ same_offer (offer_at-row_offers b (edition_of b) 1 n i l) (offer_at-row_offers b' (edition_of b') 1 m j k) ∙ sym e

    pub walk_more : (i' j' : ℕ) (t : Bool) → i < n → j < m → t ≡ same_offer (row_offer b (edition_of b) 1 i) (row_offer b' (edition_of b') 1 j) → t ≡ true
        → NextTo p xs (suc i) i' → NextTo p ys (suc j) j' → Walk i' j' (suc shared)
    walk_more i' j' t l k e f s u =
        walk_of i' j' (suc shared) (walked_more p xs ys i j shared w.walked i' j' (inside l) (inside' k) (own t l k e ∙ f) s u)

    pub walk-differ : (t : Bool) → i < n → j < m → t ≡ same_offer (row_offer b (edition_of b) 1 i) (row_offer b' (edition_of b') 1 j) → t ≡ false
        → OffersDiffer i j ≡ offers_compared p xs ys
    walk-differ t l k e f = walked-differ p xs ys i j shared w.walked (inside l) (inside' k) (own t l k e ∙ f)

    pub walk_first : i < n → m ≤ j → OnlyFirst i ≡ offers_compared p xs ys
    walk_first l k = walked-first p xs ys i j shared w.walked (inside l) (outside' k)

    pub walk-second : n ≤ i → j < m → OnlySecond j ≡ offers_compared p xs ys
    walk-second l k = walked-second p xs ys i j shared w.walked (outside l) (inside' k)

    pub walk-all : n ≤ i → m ≤ j → Applies p shared ≡ offers_compared p xs ys
    walk-all l k = walked_all p xs ys i j shared w.walked (outside l) (outside' k)
