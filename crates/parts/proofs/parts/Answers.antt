-- `parts::parts` writes each row's part. The loop's invariant: the rows passed hold their parts.
-- Assumes nothing.
use Rattle.laws.proofs.Fills.{filled_none, filled_more}
use Rattle.parts.proofs.parts.Goals as goal

pub loop-row-init : goal.loop-row-init
loop-row-init c = filled_none _ _

pub loop-row-preserved : goal.loop-row-preserved
loop-row-preserved c = filled_more _ _ _ c.loop-row.invariant c.part.ensures
