-- `values_tested` finds the first fault by 6, 7 or 10, and keeps the resource numbers and the steps of the rows up to it. The loop's
-- invariant is that of `values_fault`, with two columns.
-- Assumes nothing.
use Prim.Native.Nat.{◌≤◌}
use Rattle.layout.specs.Read.{row_offers}
use Rattle.reading.specs.inner.Rows.{ValuesTested}
use Rattle.reading.proofs.tested.values_tested.Given as goal
use Rattle.values.specs.Refusals.{no_fault}

abbrev pub invariant-loop-row : goal.invariant-loop-row
invariant-loop-row l =
    (l.row ≤ l.n)
    × ValuesTested l.needed l.edition (row_offers l.book l.edition l.first l.n) l.row no_fault l.initial.resources l.initial.steps l.resources l.steps
