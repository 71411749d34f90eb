-- `settle::commit` writes what each row commits. The loop's invariant: the rows passed have what they commit, and their
-- tenths past what cleared, at most 200,000 each, are summed.
-- Assumes nothing.
use mathlib.Core.Path.{◌≡◌}
use Prim.Native.Nat.{◌≤◌, ◌-◌, ◌*◌}
use lib.ListN.{length}
use Rattle.laws.specs.Filled.{filled}
use Rattle.laws.specs.Sum.{sum_to}
use Rattle.settle.specs.inner.Rows.{row_commits, row_past}
use Rattle.settle.proofs.commit.Given as goal

abbrev pub invariant-loop-row : goal.invariant-loop-row
invariant-loop-row l =
    (l.row ≤ length l.leasts)
    × (l.out ≡ filled (row_commits l.leasts l.cleared) l.row l.initial.out)
    × (l.past ≡ sum_to (row_past l.leasts l.cleared) l.row)
    × (l.past ≤ l.row * 200000)

abbrev pub decreases-loop-row : goal.decreases-loop-row
decreases-loop-row l = length l.leasts - l.row
