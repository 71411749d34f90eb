-- `over_columns` runs over the sums of the columns. The loop's invariant: what the board holds after so many steps.
-- Assumes nothing.
use mathlib.Core.Path.{refl}
use native.Mathlib.Omega.{arith}
use Rattle.block.proofs.Boards.{board-none, board-next, board-sum, board-total}
use Rattle.block.proofs.columns.over_columns.Goals as goal

pub loop-i-init : goal.loop-i-init
loop-i-init c = (omega arith, board-none _ _ _ _ (omega arith) (omega arith))

pub loop-i-preserved : goal.loop-i-preserved
loop-i-preserved c = (
  omega arith,
  board-next _ _ _ _ _ (omega arith) (omega arith) c.loop-i.invariant.1 refl
      c.step-board.ensures.sum_value
      c.step-board.ensures.total_value,
)

pub returns : goal.returns
returns c =
    record {
      sum_value = board-sum _ _ c.loop-i.invariant.1 (omega arith);
      total_value = board-total _ _ c.loop-i.invariant.1 (omega arith);
    }
