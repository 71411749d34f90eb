-- `column_sums` runs over each column. The loop's invariant: the totals of the columns passed, added up, and their sums.
-- Assumes nothing.
use mathlib.Core.Path.{◌≡◌}
use Prim.Native.Nat.{◌≤◌, ◌-◌, ◌%◌}
use Rattle.laws.specs.Sum.{sum_to}
use Rattle.laws.specs.Filled.{filled}
use Rattle.block.specs.inner.Columns.{column_sum, column_total}
use Rattle.block.proofs.columns.column_sums.Given as goal

abbrev pub invariant-loop-column : goal.invariant-loop-column
invariant-loop-column l =
    (l.column ≤ 16)
    × (l.totals ≡ sum_to (column_total l.s) l.column % 65536)
    × (l.sums ≡ filled (column_sum l.s) l.column l.initial.sums)

abbrev pub decreases-loop-column : goal.decreases-loop-column
decreases-loop-column l = 16 - l.column
