-- `over_columns` runs over the sums of the columns. The loop's invariant: what the board holds after so many steps.
-- Assumes nothing.
use Prim.Native.Nat.{◌≤◌, ◌-◌}
use lib.ListN.{get_or}
use Rattle.block.proofs.Boards.{Board}
use Rattle.block.proofs.columns.over_columns.Given as goal

abbrev pub invariant-loop-i : goal.invariant-loop-i
invariant-loop-i l = (l.i ≤ 16) × Board (λ j. get_or l.sums j 0) 16 0 0 (16 - l.i) l.board.sum l.board.total

abbrev pub decreases-loop-i : goal.decreases-loop-i
decreases-loop-i l = l.i
