-- `put_rows` puts the rows into the columns, and tells whether each holds by what no column tells. The loop's invariant: so it is of
-- the rows passed.
-- Assumes nothing.
use mathlib.Core.Path.{◌≡◌}
use Prim.Native.Nat.{ℕ}
use native.Mathlib.Omega.{arith}
use borrow.Author.Rules.{rules}
use Rattle.laws.proofs.Filling.{length-filling, in-filling}
use Rattle.values.specs.declared.place.Offer.{Offer}
use Rattle.values.specs.Contents.{offer_at}
use Rattle.layout.specs.Read.{row_offers}
use Rattle.layout.proofs.Contained.{offer-of-row}
use Rattle.reading.proofs.Puts.{put-none, put-more, put-end}
use Rattle.reading.proofs.put.put_rows.Goals as goal
use Rattle.reading.proofs.put.put_rows.Goals.{After-offer_in-o}

pub loop-row-init : goal.loop-row-init
loop-row-init c = (search rules, put-none _ _)

pub row_bytes-requires : goal.row_bytes-requires
row_bytes-requires c = c.requires.0.within c.loop-row.row c.loop-row-test.true

abbrev offer : After-offer_in-o → ℕ → Offer
offer c = let a = c.args in offer_at (row_offers a.book.now a.edition a.first a.n)

-- the offer that was read is the book's own
as-offer : (c : After-offer_in-o) →
    c.offer_in-o.result ≡ offer c c.loop-row.row
as-offer c = offer-of-row _ _ _ _ _ c.loop-row-test.true c.row_bytes.ensures.0 c.offer_in-o.ensures

pub bounds-prices-row : goal.bounds-prices-row
bounds-prices-row c = in-filling _ _ _ c.loop-row.invariant.1.read.price (omega arith)

pub bounds-quantities-row : goal.bounds-quantities-row
bounds-quantities-row c = in-filling _ _ _ c.loop-row.invariant.1.read.quantity (omega arith)

pub bounds-leasts-row : goal.bounds-leasts-row
bounds-leasts-row c = in-filling _ _ _ c.loop-row.invariant.1.read.least (omega arith)

pub bounds-resources-row : goal.bounds-resources-row
bounds-resources-row c = in-filling _ _ _ c.loop-row.invariant.1.read.resource (omega arith)

pub bounds-stamps-row : goal.bounds-stamps-row
bounds-stamps-row c = in-filling _ _ _ c.loop-row.invariant.1.read.stamp (omega arith)

pub bounds-steps-row : goal.bounds-steps-row
bounds-steps-row c = in-filling _ _ _ c.loop-row.invariant.1.read.step (omega arith)

pub loop-row-preserved : goal.loop-row-preserved
loop-row-preserved c = (
  search rules,
  put-more _ _ c.loop-row.invariant.1 (as-offer (goal.at.loop-row-preserved c).After-offer_in-o) c.number_held.ensures
      c.least_of.ensures
      c.rest_holds-told.ensures,
)

pub shape_of-prices : goal.shape_of-prices
shape_of-prices c = length-filling _ _ _ c.loop-row.invariant.1.read.price

pub shape_of-quantities : goal.shape_of-quantities
shape_of-quantities c = length-filling _ _ _ c.loop-row.invariant.1.read.quantity

pub shape_of-leasts : goal.shape_of-leasts
shape_of-leasts c = length-filling _ _ _ c.loop-row.invariant.1.read.least

pub shape_of-resources : goal.shape_of-resources
shape_of-resources c = length-filling _ _ _ c.loop-row.invariant.1.read.resource

pub shape_of-stamps : goal.shape_of-stamps
shape_of-stamps c = length-filling _ _ _ c.loop-row.invariant.1.read.stamp

pub shape_of-steps : goal.shape_of-steps
shape_of-steps c = length-filling _ _ _ c.loop-row.invariant.1.read.step

pub returns : goal.returns
returns c = put-end c.loop-row.invariant.1 (omega arith)
