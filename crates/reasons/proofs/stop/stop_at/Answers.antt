-- `stop_at` is where the cleared total stops.
-- Assumes nothing.
use Rattle.reasons.proofs.Stops.{stop_is}
use Rattle.reasons.proofs.stop.stop_at.Goals as goal

pub returns : goal.returns
returns c = stop_is _ _ _ _ _ c.cleared_level-level.ensures.0 c.tenth_at.ensures c.next_at.ensures
