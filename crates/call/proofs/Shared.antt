-- Contents that say the same up to their clearing price.
--
-- In order: the offers of contents as rows of an auction; what an offer clears, commits and is paid, told from the offer; so the totals,
-- the price and the amounts of two contents that agree up to the price p of the first.
-- Assumes nothing.
use mathlib.Core.Path.{◌≡◌, sym, ap, ◌∙◌}
use mathlib.Core.Bool.{true, false≢true}
use mathlib.Core.List.{map}
use mathlib.Core.Option.{some}
use Prim.Native.Nat.{ℕ, ◌≤◌, ◌<◌}
use native.Mathlib.Nat.{mul-zero}
use lib.Dec.{leb}
use lib.ListN.{length}
use borrow.Author.Tests.{leb-true}
use Rattle.laws.specs.Lists.{list_of, those}
use Rattle.laws.proofs.Listing.{list_of-map, list_of-get_d}
use Rattle.laws.proofs.Those.{those-same, those-map}
use Rattle.auction.specs.Settlement.{committed, make_whole}
use Rattle.auction.specs.Losers.{Row, rows_at_or_below}
use Rattle.auction.proofs.Committed.{committed-none}
use Rattle.auction.proofs.ByRow.{row_clears, cleared-by-row}
use Rattle.auction.proofs.Unmoved.{loser-clears-nothing}
use Rattle.values.specs.Values.{held}
use Rattle.values.specs.Contents.{Contents, no_offer, offer_at}
use Rattle.values.specs.declared.Value.{Value}
use Rattle.values.specs.declared.Value.TheVariants.{Given, Missing}
use Rattle.values.specs.declared.place.Offer.{Offer}
use Rattle.limits.specs.Clearable.{Clearable}
use Rattle.settle.specs.Read.{optional}
use Rattle.sale.specs.Auction.{offers_of, demand, total, price, row_cleared, row_committed, row_make_whole}
use Rattle.sale.proofs.Ground.{clearable-falls}
use Rattle.call.specs.Losers.{to_price, at_or_below, Line}

-- an offer as a row of an auction
abbrev pub as_row : Offer → Row
as_row o = record { price = held o.price; quantity = o.quantity; stamp = o.stamp; resource = o.resource; step = o.step }

-- a price that is p or less holds no more than p
pub to_price-most : (p : ℕ) (v : Value) → to_price p v ≡ true → held v ≤ p
to_price-most p (Given q) e = leb-true _ _ e
to_price-most p Missing e = absurd (false≢true e)

-- of a price that is given, the test is that of what it holds
pub to_price-held : (p : ℕ) (v : Value) → v ≡ Given (held v) → to_price p v ≡ leb (held v) p
to_price-held p v e = ap (to_price p) e

-- ---- what an offer gets in the auction of contents

module _ (c : Contents) where
  unfoldable pub offer_clears : Offer → ℕ
  offer_clears o = row_clears (offers_of c.offers) (total c) (as_row o)

  abbrev pub offer_line : Offer → Line
  offer_line o =
      record {
        offer = o;
        cleared = offer_clears o;
        committed = committed (optional o.block) (offer_clears o);
        make_whole = make_whole (price c) (optional o.block) (offer_clears o);
      }

  pub cleared-line : (row : ℕ) → row_cleared c row ≡ (offer_line (offer_at c.offers row)).cleared
  unfolding row_cleared offer_clears offers_of
  cleared-line row = cleared-by-row (offers_of c.offers) (total c) row

  pub committed-line : (row : ℕ) → row_committed c row ≡ (offer_line (offer_at c.offers row)).committed
  unfolding row_committed
  committed-line row = ap (committed (optional (offer_at c.offers row).block)) (cleared-line row)

  pub make-whole-line : (row : ℕ) → row_make_whole c row ≡ (offer_line (offer_at c.offers row)).make_whole
  unfolding row_make_whole
  make-whole-line row = ap (make_whole (price c) (optional (offer_at c.offers row).block)) (cleared-line row)

module _ (c : Contents) (ok : Clearable c) (p : ℕ) where
  -- those offers that hold p or less
  held_same : at_or_below p c.offers ≡ those (λ (o : Offer). leb (held o.price) p) c.offers
  unfolding at_or_below
  held_same =
      those-same (λ (o : Offer). to_price p o.price) (λ (o : Offer). leb (held o.price) p) c.offers no_offer
      (λ i l. to_price-held p _ (ok.priced i l).price-given)

  pub held-listed : those (λ (o : Offer). leb (held o.price) p) (list_of (offer_at c.offers) (length c.offers)) ≡ at_or_below p c.offers
  held-listed = ap (those (λ (o : Offer). leb (held o.price) p)) (list_of-get_d c.offers no_offer) ∙ sym held_same

  -- the rows of the auction at or below p are the offers at or below p
  pub rows_same : rows_at_or_below p (offers_of c.offers) ≡ map as_row (at_or_below p c.offers)
  unfolding rows_at_or_below offers_of
  rows_same =
      ap (those (λ (r : Row). leb r.price p)) (list_of-map as_row (offer_at c.offers) (length c.offers))
      ∙ those-map (λ (r : Row). leb r.price p) as_row (list_of (offer_at c.offers) (length c.offers))
      ∙ ap (map as_row) held-listed

  -- over the clearing price an offer gets nothing
  module _ (priced : price c ≡ some p) (o : Offer) (above : p < held o.price) where
    pub loser-cleared : offer_clears c o ≡ 0
    unfolding offer_clears price total
    loser-cleared =
        loser-clears-nothing (demand c) (offers_of c.offers) p (clearable-falls c ok) priced (as_row o) above

    pub loser-committed : (offer_line c o).committed ≡ 0
    loser-committed = ap (committed (optional o.block)) loser-cleared ∙ committed-none (optional o.block)

    pub loser-make-whole : (offer_line c o).make_whole ≡ 0
    loser-make-whole = rw (loser-cleared, committed-none (optional o.block), priced) (mul-zero p)
