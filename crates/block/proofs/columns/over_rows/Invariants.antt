-- `over_rows` runs over one column. The loop's invariant: what the board holds after so many steps.
-- Assumes nothing.
use Prim.Native.Nat.{◌≤◌, ◌-◌}
use Rattle.block.specs.inner.Columns.{in_column}
use Rattle.block.proofs.Boards.{Board}
use Rattle.block.proofs.columns.over_rows.Given as goal

abbrev pub invariant-loop-row : goal.invariant-loop-row
invariant-loop-row l = (l.row ≤ 30) × Board (in_column l.s l.column) 30 0 0 (30 - l.row) l.board.sum l.board.total

abbrev pub decreases-loop-row : goal.decreases-loop-row
decreases-loop-row l = l.row
