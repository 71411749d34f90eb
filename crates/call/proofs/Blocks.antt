-- Minimum blocks change what is committed and paid, not what is cleared.
--
-- In order: contents that differ in minimum blocks alone make the same auction; so they clear the same at the same price.
-- Assumes nothing.
use mathlib.Core.Path.{◌≡◌, ap, sym, fun_ext, ◌∙◌}
use mathlib.Core.List.{List}
use Prim.Native.Nat.{ℕ}
use lib.ListN.{length, get_or-eq_default}
use native.Mathlib.Omega.{arith}
use contract.Lifetimes.{Lfts}
use denote.Ref.{Bor, MutBor}
use Rattle.std.specs.Prelude.{Ok}
use Rattle.laws.proofs.Cases.{by_order}
use Rattle.values.specs.Values.{held}
use Rattle.values.specs.declared.place.Offer.{Offer}
use Rattle.pricing.specs.Price.{as_price}
use Rattle.values.specs.Contents.{Contents, no_offer, offer_at}
use Rattle.layout.specs.Read.{contents_of}
use Rattle.sale.specs.Auction.{offers_of, total, price, row_cleared}
use Rattle.call.specs.Answer.{Outcome}
use Rattle.call.specs.Demands.{SameOffer, SameButBlocks, ClearAlike}
use Rattle.sale.specs.Payment.{clearing_of}
use Rattle.sale.specs.declared.Clearing.{Clearing}
use Rattle.call.proofs.Decided.{Called, call-outcome}
use Rattle.call.proofs.Outcomes.{cleared-clearing, cleared-row}

module _ (c c' : Contents) (s : SameButBlocks c c') where
  -- a value that agrees in every row, and past the last, agrees everywhere
  row-agree : (of : Offer → ℕ) → ((o o' : Offer) → SameOffer o o' → of o ≡ of o')
      → ◌≡◌ {A = ℕ → ℕ} (λ row. of (offer_at c.offers row)) (λ row. of (offer_at c'.offers row))
  row-agree of h =
      fun_ext (λ row. by_order (length c.offers) row
      (λ l.
      ap of (get_or-eq_default c.offers no_offer l)
      ∙ sym (ap of (get_or-eq_default c'.offers no_offer (omega (arith, s.count)))))
      (λ l. h _ _ (s.offers row l)))

  offers-same : offers_of c.offers ≡ offers_of c'.offers
  unfolding offers_of
  offers-same = λ i.
      record {
        count = s.count i;
        price = row-agree (λ o. held o.price) (λ o o' e. ap held e.price) i;
        quantity = row-agree (λ o. o.quantity) (λ o o' e. e.quantity) i;
        stamp = row-agree (λ o. o.stamp) (λ o o' e. e.stamp) i;
        resource = row-agree (λ o. o.resource) (λ o o' e. e.resource) i;
        step = row-agree (λ o. o.step) (λ o o' e. e.step) i;
      }

  total-same : total c ≡ total c'
  unfolding total
  total-same = rw (s.parameters, offers-same)

  price-same : price c ≡ price c'
  unfolding price
  price-same = rw (s.parameters, offers-same)

  row_same : (row : ℕ) → row_cleared c row ≡ row_cleared c' row
  unfolding row_cleared
  row_same row = rw (total-same, offers-same)

-- DEMAND 3. Two accepted books that differ in minimum blocks alone clear the same, at the same price.
module _ (κs κs' : Lfts 3) (book : Bor (List ℕ)) (cleared₀ committed₀ cleared₁ committed₁ : MutBor (List ℕ)) (k : Clearing)
    (called : Called κs book cleared₀ committed₀ cleared₁ committed₁ (Ok k))
    (book' : Bor (List ℕ)) (cleared₀' committed₀' cleared₁' committed₁' : MutBor (List ℕ)) (k' : Clearing)
    (called' : Called κs' book' cleared₀' committed₀' cleared₁' committed₁' (Ok k')) where
  abbrev b : List ℕ
  b = book.now

  abbrev b' : List ℕ
  b' = book'.now

  out : Outcome b cleared₀.now committed₀.now (Ok k) cleared₁.now committed₁.now
  out = call-outcome κs book cleared₀ committed₀ cleared₁ committed₁ (Ok k) called

  out' : Outcome b' cleared₀'.now committed₀'.now (Ok k') cleared₁'.now committed₁'.now
  out' = call-outcome κs' book' cleared₀' committed₀' cleared₁' committed₁' (Ok k') called'

  pub call-blocks : SameButBlocks (contents_of b) (contents_of b') → ClearAlike k k' cleared₁.now cleared₁'.now (length (contents_of b).offers)
  unfolding clearing_of
  call-blocks s =
      let e = cleared-clearing b cleared₀.now committed₀.now k cleared₁.now committed₁.now out in
      let e' = cleared-clearing b' cleared₀'.now committed₀'.now k' cleared₁'.now committed₁'.now out' in
      record {
        total = ap (λ (c : Clearing). c.total) e ∙ total-same (contents_of b) (contents_of b') s ∙ sym (ap (λ (c : Clearing). c.total) e');
        price = ap (λ (c : Clearing). c.price) e ∙ ap as_price (price-same (contents_of b) (contents_of b') s) ∙ sym (ap (λ (c : Clearing). c.price) e');
        rows = λ row l.
            cleared-row b cleared₀.now committed₀.now k cleared₁.now committed₁.now out row l
            ∙ row_same (contents_of b) (contents_of b') s row
            ∙ sym (cleared-row b' cleared₀'.now committed₀'.now k' cleared₁'.now committed₁'.now out' row (rw s.count at l));
      }
