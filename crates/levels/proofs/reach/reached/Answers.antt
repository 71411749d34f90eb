-- `levels::reach::reached` is the largest quantity at which the curve asks a price or more.
-- Assumes nothing.
use Rattle.levels.proofs.Reaching.{reaches-under, reaches-met}
use native.Mathlib.Omega.{arith}
use Rattle.levels.proofs.reach.reached.Goals as goal

pub loop-low-preserved : goal.loop-low-preserved
loop-low-preserved c = reaches-under _ _ _ _ _ _ c.loop-low.invariant _ (omega arith) (omega arith) (omega arith)

pub returns : goal.returns
returns c = reaches-met _ _ _ _ _ _ c.loop-low.invariant c.loop-low-test.false
