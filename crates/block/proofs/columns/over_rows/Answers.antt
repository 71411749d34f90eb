-- `over_rows` runs over one column. The loop's invariant: what the board holds after so many steps.
-- Assumes nothing.
use native.Mathlib.Omega.{arith}
use Rattle.block.proofs.Boards.{board-none, board-next, board-sum, board-total}
use Rattle.block.proofs.columns.over_rows.Goals as goal

pub loop-row-init : goal.loop-row-init
loop-row-init c = (omega arith, board-none _ _ _ _ (omega arith) (omega arith))

pub loop-row-preserved : goal.loop-row-preserved
loop-row-preserved c = (
  omega arith,
  board-next _ _ _ _ _ (omega arith) (omega arith) c.loop-row.invariant.1 c.from.ensures
      c.step-board.ensures.sum_value
      c.step-board.ensures.total_value,
)

pub returns : goal.returns
returns c =
    record {
      sum_value = board-sum _ _ c.loop-row.invariant.1 (omega arith);
      total_value = board-total _ _ c.loop-row.invariant.1 (omega arith);
    }
