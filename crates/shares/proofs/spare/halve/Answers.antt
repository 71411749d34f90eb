-- `shares::spare::halve` parts the time stamps of the first rows into halves. The loop's invariant: those of the rows passed
-- are parted.
-- Assumes nothing.
use Rattle.laws.proofs.Fills.{filled_none, filled_more}
use Rattle.shares.proofs.spare.halve.Goals as goal

pub loop-row-init : goal.loop-row-init
loop-row-init c = (filled_none _ _, filled_none _ _)

pub loop-row-preserved : goal.loop-row-preserved
loop-row-preserved c =
    let h = c.loop-row.invariant in
    (filled_more _ _ _ h.0 c.high_half.ensures, filled_more _ _ _ h.1 c.low_half.ensures)
