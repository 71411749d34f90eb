-- One more offer never raises the price and never lowers the total, read on two calls.
--
-- In order: contents with one more offer are an auction with one more; so the totals and the prices of two clearings compare.
-- Assumes nothing.
use mathlib.Core.Path.{◌≡◌, ap, sym, subst₂, ◌∙◌}
use mathlib.Core.List.{List, [], ◌∷◌}
use mathlib.Core.Option.{Option, none, some}
use Prim.Native.Nat.{ℕ, suc, ◌≤◌, ◌<◌}
use native.Mathlib.Numerals.{add-one}
use lib.ListN.{length, length-append, get_or-append}
use contract.Lifetimes.{Lfts}
use denote.Ref.{Bor, MutBor}
use Rattle.std.specs.Prelude.{Some, Ok}
use Rattle.auction.specs.Clearing.{cleared_total, clearing_price}
use Rattle.curve.specs.Price.{demand_of}
use Rattle.region.specs.Region.{region_curve}
use Rattle.values.specs.declared.head.Parameters.{Parameters}
use Rattle.auction.specs.Demands.{OneMore, NoDearer}
use Rattle.auction.proofs.OneMore.{one-more-no-dearer}
use Rattle.values.specs.Values.{held}
use Rattle.values.specs.Contents.{Contents, no_offer, offer_at}
use Rattle.values.specs.declared.place.Offer.{Offer}
use Rattle.units.specs.declared.CentsPerMwDay.{CentsPerMwDay}
use Rattle.pricing.specs.Price.{as_price}
use Rattle.layout.specs.Read.{contents_of}
use Rattle.book.proofs.Accepted.{accepted-clearable}
use Rattle.sale.specs.Auction.{offers_of, demand, total, price}
use Rattle.sale.specs.Payment.{clearing_of}
use Rattle.sale.specs.declared.Clearing.{Clearing}
use Rattle.sale.proofs.Ground.{clearable-falls}
use Rattle.call.specs.Answer.{Outcome}
use Rattle.call.specs.Demands.{OneMoreOffer}
use Rattle.call.proofs.Decided.{Called, call-outcome}
use Rattle.call.proofs.Outcomes.{cleared-accepted, cleared-clearing}

module _ (c c' : Contents) (m : OneMoreOffer c c') where
  -- a row that was there is there still
  same_row : (row : ℕ) → row < length c.offers → offer_at c.offers row ≡ offer_at c'.offers row
  same_row row l = sym (ap (λ (os : List Offer). offer_at os row) m.offers ∙ get_or-append c.offers _ no_offer row l)

  one-row : length c'.offers ≡ suc (length c.offers)
  one-row = ap length m.offers ∙ length-append c.offers (m.more ∷ []) ∙ add-one (length c.offers)

  offers-more : OneMore (offers_of c.offers) (offers_of c'.offers)
  unfolding offers_of
  offers-more =
      record {
        count = one-row;
        price = λ i l. ap (λ (o : Offer). held o.price) (same_row i l);
        quantity = λ i l. ap (λ (o : Offer). o.quantity) (same_row i l);
      }

-- a price that is quoted is there
pub quoted-there : (x : Option ℕ) (p : CentsPerMwDay) → Some p ≡ as_price x → x ≡ some p.0
quoted-there none p e = cc
quoted-there (some q) p e = cc

module _ (κs κs' : Lfts 3) (book : Bor (List ℕ)) (cleared₀ committed₀ cleared₁ committed₁ : MutBor (List ℕ)) (k : Clearing)
    (called : Called κs book cleared₀ committed₀ cleared₁ committed₁ (Ok k))
    (book' : Bor (List ℕ)) (cleared₀' committed₀' cleared₁' committed₁' : MutBor (List ℕ)) (k' : Clearing)
    (called' : Called κs' book' cleared₀' committed₀' cleared₁' committed₁' (Ok k'))
    (m : OneMoreOffer (contents_of book.now) (contents_of book'.now)) where
  abbrev b : List ℕ
  b = book.now

  abbrev b' : List ℕ
  b' = book'.now

  out : Outcome b cleared₀.now committed₀.now (Ok k) cleared₁.now committed₁.now
  out = call-outcome κs book cleared₀ committed₀ cleared₁ committed₁ (Ok k) called

  out' : Outcome b' cleared₀'.now committed₀'.now (Ok k') cleared₁'.now committed₁'.now
  out' = call-outcome κs' book' cleared₀' committed₀' cleared₁' committed₁' (Ok k') called'

  dearer : NoDearer (demand (contents_of b)) (offers_of (contents_of b).offers) (offers_of (contents_of b').offers)
  dearer =
      one-more-no-dearer _ _ _
      (clearable-falls (contents_of b) (accepted-clearable b (cleared-accepted b cleared₀.now committed₀.now k cleared₁.now committed₁.now out)))
      (offers-more (contents_of b) (contents_of b') m)

  abbrev here : k ≡ clearing_of (contents_of b)
  here = cleared-clearing b cleared₀.now committed₀.now k cleared₁.now committed₁.now out

  abbrev there : k' ≡ clearing_of (contents_of b')
  there = cleared-clearing b' cleared₀'.now committed₀'.now k' cleared₁'.now committed₁'.now out'

  -- One more offer never lowers the total.
  pub call-one-more-total : k.total ≤ k'.total
  unfolding clearing_of total
  call-one-more-total =
      subst₂ ◌≤◌ (sym (ap (λ (c : Clearing). c.total) here))
      (ap (λ (p : Parameters). cleared_total (demand_of (region_curve p)) (offers_of (contents_of b').offers)) m.parameters
      ∙ sym (ap (λ (c : Clearing). c.total) there))
      dearer.total

  -- Where there was a price there is one, and it is no higher.
  pub call-one-more : (p : CentsPerMwDay) → k.price ≡ Some p → (q : CentsPerMwDay) × ((k'.price ≡ Some q) × (q.0 ≤ p.0))
  unfolding clearing_of price
  call-one-more p e =
      let low = quoted-there (price (contents_of b)) p (sym e ∙ ap (λ (c : Clearing). c.price) here) in
      let found = dearer.priced p.0 low in
      let own : price (contents_of b') ≡ some found.0 =
      sym (ap (λ (r : Parameters). clearing_price (demand_of (region_curve r)) (offers_of (contents_of b').offers)) m.parameters) ∙ found.1 in (
        record { 0 = found.0 },
        (ap (λ (c : Clearing). c.price) there ∙ ap as_price own, dearer.price p.0 found.0 low found.1),
      )
