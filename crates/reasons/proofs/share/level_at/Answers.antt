-- `level_at` is what a price level receives and offers.
-- Assumes nothing.
use Rattle.reasons.proofs.Shared.{below-reach, level-received}
use Rattle.reasons.proofs.share.level_at.Goals as goal

pub overflow_sub-sum : goal.overflow_sub-sum
overflow_sub-sum c = below-reach _ 0 _ _ _ c.supply_below-below.ensures.0 c.supply_at.ensures.0

pub returns : goal.returns
returns c =
    level-received _ _ _ _ _ c.supply_below-below.ensures.0 c.supply_at.ensures.0 _ _ c.saturating_sub.ensures c.min.ensures
