-- What a book says as an auction, and what each of its rows clears, commits and is paid.
--
-- `held` is asked only of values that the refusals have shown to be given.
-- Assumes nothing.
use Rattle.std.specs.Prelude.{ℕ, ◌+◌, ◌*◌, List, length}
use Rattle.std.proofs.Math.Option.{Option}
use Rattle.laws.specs.Sum.{sum_to}
use Rattle.auction.specs.Offers.{Offers, Demand}
use Rattle.auction.specs.Clearing.{cleared_total, clearing_price}
use Rattle.auction.specs.Shares.{cleared}
use Rattle.auction.specs.Settlement.{committed, mills, make_whole}
use Rattle.calendar.specs.Year.{days_of}
use Rattle.curve.specs.Price.{demand_of}
use Rattle.values.specs.Values.{held}
use Rattle.values.specs.Contents.{Contents, offer_at}
use Rattle.values.specs.declared.place.Offer.{Offer}
use Rattle.region.specs.Region.{region_curve}
use Rattle.settle.specs.Read.{optional}

-- the offers of an auction, by row
unfoldable pub offers_of : List Offer → Offers
offers_of offers =
    record {
      count = length offers;
      price = λ row. held (offer_at offers row).price;
      quantity = λ row. (offer_at offers row).quantity;
      stamp = λ row. (offer_at offers row).stamp;
      resource = λ row. (offer_at offers row).resource;
      step = λ row. (offer_at offers row).step;
    }

module _ (c : Contents) where
  -- the curve that the parameters select
  abbrev pub demand : Demand
  demand = demand_of (region_curve c.parameters)

  -- X
  unfoldable pub total : ℕ
  total = cleared_total demand (offers_of c.offers)

  -- the clearing price, or none
  unfoldable pub price : Option ℕ
  price = clearing_price demand (offers_of c.offers)

  -- what a row clears, what it commits, and its make-whole in mills a day
  unfoldable pub row_cleared : ℕ → ℕ
  row_cleared row = cleared (offers_of c.offers) total row

  unfoldable pub row_committed : ℕ → ℕ
  row_committed row = committed (optional (offer_at c.offers row).block) (row_cleared row)

  unfoldable pub row_make_whole : ℕ → ℕ
  row_make_whole row = make_whole price (optional (offer_at c.offers row).block) (row_cleared row)

  -- all make-whole; the daily total, with the price on what cleared; the year total
  unfoldable pub all_make_whole : ℕ
  all_make_whole = sum_to row_make_whole (length c.offers)

  unfoldable pub daily_total : ℕ
  daily_total = mills price total + all_make_whole

  unfoldable pub year_total : ℕ
  year_total = days_of c.parameters.year * daily_total
