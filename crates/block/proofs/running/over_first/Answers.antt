-- `over_first` goes on over bytes 11 to 0. The loop's invariant: what the board holds after so many steps from where it stood.
-- Assumes nothing.
use mathlib.Core.Path.{◌≡◌}
use native.Mathlib.Omega.{arith}
use Rattle.block.proofs.Boards.{board-none, board-next}
use Rattle.block.proofs.running.over_first.Goals as goal

pub loop-i-init : goal.loop-i-init
loop-i-init c = (omega arith, board-none _ _ _ _ (omega arith) (omega arith))

pub loop-i-preserved : goal.loop-i-preserved
loop-i-preserved c = (
  omega arith,
  board-next _ _ _ _ _ (omega arith) (omega arith) c.loop-i.invariant.1 c.from.ensures
      c.step-after.ensures.sum_value
      c.step-after.ensures.total_value,
)

pub returns : goal.returns
returns c =
    let all : c.loop-i.i ≡ 0 = omega arith in
    let b = rw all at c.loop-i.invariant.1 in
    record {
      sum_value = b.sum;
      total_value = b.total;
    }
