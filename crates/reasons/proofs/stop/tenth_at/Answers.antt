-- `tenth_at` is a tenth of the curve.
-- Assumes nothing.
use Rattle.reasons.proofs.Stops.{tenth-is}
use Rattle.reasons.proofs.stop.tenth_at.Goals as goal

pub returns : goal.returns
returns c = tenth-is _ _ _ _ _ c.tenth_price-price.ensures.0 c.supply_at.ensures.0
