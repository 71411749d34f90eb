-- `shares::spare::line_up` writes each row's key and standing. The loop's invariant: the rows passed hold theirs.
-- Assumes nothing.
use Rattle.laws.proofs.Fills.{filled_none, filled_more}
use Rattle.shares.proofs.spare.line_up.Goals as goal

pub loop-row-init : goal.loop-row-init
loop-row-init c = (filled_none _ _, filled_none _ _)

pub loop-row-preserved : goal.loop-row-preserved
loop-row-preserved c =
    let h = c.loop-row.invariant in
    (filled_more _ _ _ h.0 c.key.ensures, filled_more _ _ _ h.1 c.standing.ensures)
