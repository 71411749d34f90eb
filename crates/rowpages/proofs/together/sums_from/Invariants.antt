-- `sums_from` adds one row after another. The loop's invariant: both sums of the rows so far, each row of 32 bits.
-- Assumes nothing.
use mathlib.Core.Path.{◌≡◌}
use Prim.Native.Nat.{◌+◌, ◌-◌, ◌*◌, ◌≤◌}
use Rattle.laws.specs.Sum.{sum_to}
use Rattle.readout.specs.Facts.{row_in}
use Rattle.workings.specs.Works.{worked}
use Rattle.rowpages.specs.Together.{cleared_in, offered_in}
use Rattle.rowpages.proofs.together.sums_from.Given as goal

abbrev pub invariant-loop-j : goal.invariant-loop-j
invariant-loop-j l =
    (l.j ≤ l.count)
    × (l.cleared ≡ sum_to (λ i. cleared_in (worked l.book (l.first + i) 600 600)) l.j)
    × (l.offered ≡ sum_to (λ i. offered_in (row_in l.book (l.first + i))) l.j)
    × (l.cleared ≤ 4294967295 * l.j)
    × (l.offered ≤ 4294967295 * l.j)

abbrev pub decreases-loop-j : goal.decreases-loop-j
decreases-loop-j l = l.count - l.j
