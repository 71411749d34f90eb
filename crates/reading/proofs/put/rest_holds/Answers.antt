-- `rest_holds` joins the test of the seller and that of the minimum block.
-- Assumes nothing.
use Rattle.reading.specs.inner.Lanes.{rest_holds}
use Rattle.reading.proofs.put.rest_holds.Goals as goal

pub returns : goal.returns
unfolding rest_holds
returns c = simp c.is_flexible.ensures
