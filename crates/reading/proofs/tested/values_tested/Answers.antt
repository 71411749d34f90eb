-- `values_tested` finds the first fault by 6, 7 or 10, and keeps the resource numbers and the steps of the rows up to it. The loop's
-- invariant is that of `values_fault`, with two columns.
-- Assumes nothing.
use mathlib.Core.Path.{◌≡◌, sym, ◌∙◌}
use Prim.Native.Nat.{ℕ, ◌-◌}
use native.Mathlib.Omega.{arith}
use borrow.Author.Rules.{rules}
use Rattle.std.proofs.lemmas.Result.{err_from_is_err_and}
use Rattle.laws.proofs.Filling.{length-filling, in-filling}
use Rattle.values.specs.declared.place.Offer.{Offer}
use Rattle.limits.specs.inner.Rows.{row_fault}
use Rattle.values.specs.Contents.{offer_at}
use Rattle.layout.specs.Read.{row_offers}
use Rattle.layout.proofs.Contained.{offer-of-row}
use Rattle.reading.proofs.Tests.{row_at, row-fault, tested-none, tested-more, tested-refused, tested-end}
use Rattle.reading.proofs.tested.values_tested.Goals as goal
use Rattle.reading.proofs.tested.values_tested.Goals.{After-offer_in-o, After-row_tested}

pub loop-row-init : goal.loop-row-init
loop-row-init c = (search rules, tested-none _ _ _ _ _)

pub row_bytes-requires : goal.row_bytes-requires
row_bytes-requires c = c.requires.0.within c.loop-row.row c.loop-row-test.true

abbrev offer : After-offer_in-o → ℕ → Offer
offer c = let a = c.args in offer_at (row_offers a.book.now a.edition a.first a.n)

-- the offer that was read is the book's own
as-offer : (c : After-offer_in-o) →
    c.offer_in-o.result ≡ offer c c.loop-row.row
as-offer c = offer-of-row _ _ _ _ _ c.loop-row-test.true c.row_bytes.ensures.0 c.offer_in-o.ensures

pub bounds-resources-at : goal.bounds-resources-at
bounds-resources-at c = in-filling _ _ _ c.loop-row.invariant.1.resource (omega arith)

pub bounds-steps-at : goal.bounds-steps-at
bounds-steps-at c = in-filling _ _ _ c.loop-row.invariant.1.step (omega arith)

pub row_tested-requires : goal.row_tested-requires
row_tested-requires c =
    row_at _ _ _ _ _ c.loop-row-test.true (as-offer (goal.at.row_tested-requires c).After-offer_in-o) c.requires.0

-- the row's fault is that of the definition
as-fault : (c : After-row_tested) →
    let a = c.args in
    let row = c.loop-row.row in
    let offers = row_offers a.book.now a.edition a.first a.n in
    c.offer_in-o.result ≡ offer_at offers row
    → c.row_tested.result ≡ row_fault a.needed a.edition (offer_at offers (row - 1)) (offer_at offers row) row
as-fault c own = row-fault _ _ _ _ _ c.loop-row-test.true own _ c.row_tested.ensures

-- the columns up to the row that is refused
pub returns-in_err-row_tested : goal.returns-in_err-row_tested
returns-in_err-row_tested c =
    let at = goal.at.returns-in_err-row_tested c in
    let own = as-offer at.After-offer_in-o in
    let failed = err_from_is_err_and c.from_residual.result c.from_residual.ensures.1 in
    rw (failed.1, failed.2)
    (tested-refused _ _ _ _ c.loop-row.invariant.1 own _ _ c.loop-row-test.true
    (sym (as-fault at.After-row_tested own) ∙ c.in_err-row_tested.was))

pub loop-row-preserved : goal.loop-row-preserved
loop-row-preserved c =
    let at = goal.at.loop-row-preserved c in
    let own = as-offer at.After-offer_in-o in
    (search rules, tested-more _ _ _ _ c.loop-row.invariant.1 own (sym (as-fault at.After-row_tested own) ∙ c.in_ok-row_tested.was))

pub shape_of-resources : goal.shape_of-resources
shape_of-resources c = length-filling _ _ _ c.loop-row.invariant.1.resource

pub shape_of-steps : goal.shape_of-steps
shape_of-steps c = length-filling _ _ _ c.loop-row.invariant.1.step

pub returns : goal.returns
returns c =
    let all : c.loop-row.row ≡ c.args.n = omega arith in
    tested-end c.loop-row.invariant.1 all
