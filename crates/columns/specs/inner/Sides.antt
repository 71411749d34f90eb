-- The columns of the code as lists: those that rows are read into, and those of the rows that were read.
-- Assumes nothing.
use Rattle.std.specs.Prelude.{ℕ, length, set, take}
use Rattle.auction.specs.Offers.{Offers}
use Rattle.values.specs.Values.{held}
use Rattle.values.specs.inner.Values.{least_of}
use Rattle.values.specs.declared.place.Offer.{Offer}
use Rattle.columns.specs.declared.Columns.{Columns as ColumnsFor}
use Rattle.columns.specs.declared.rows.Rows.{Rows}
use Rattle.columns.specs.inner.Column.{rows_of}
use Rattle.columns.specs.inner.Columns.{Columns, columns_of}

-- the six lists of columns for n rows
abbrev pub lists_in : {n : ℕ} → ColumnsFor n → Columns
lists_in c = columns_of c.prices c.quantities c.leasts c.resources c.stamps c.steps

-- an offer put as a row
abbrev pub with_row : Columns → ℕ → Offer → Columns
with_row lists row o =
    columns_of (set lists.prices row (held o.price)) (set lists.quantities row o.quantity) (set lists.leasts row (least_of o.block))
    (set lists.resources row o.resource) (set lists.stamps row o.stamp) (set lists.steps row o.step)

-- the first n rows of six lists
abbrev pub first_rows : ℕ → Columns → Columns
first_rows n lists =
    columns_of (take n lists.prices) (take n lists.quantities) (take n lists.leasts) (take n lists.resources) (take n lists.stamps)
    (take n lists.steps)

module _ (r : Rows) where
  -- the six lists of rows
  abbrev pub lists_behind : Columns
  lists_behind = columns_of r.asks.prices.now r.asks.quantities.now r.leasts.now r.resources.now r.stamps.now r.steps.now

  -- how many rows there are
  abbrev pub rows_in : ℕ
  rows_in = length r.asks.prices.now

  -- the rows as offers
  abbrev pub offers_in : Offers
  offers_in = rows_of r.asks.prices.now r.asks.quantities.now r.stamps.now r.resources.now r.steps.now rows_in
