-- `rung_of` is the level at a price.
-- Assumes nothing.
use Rattle.ladder.proofs.Rungs.{rung-is}
use Rattle.ladder.proofs.rung.rung_of.Goals as goal

pub returns : goal.returns
returns c =
    rung-is _ _ _ _ _ _ _ _ _ _ c.args.asks.now.listed.cheap
    c.supply_below-below.ensures.0 c.supply_at-reach.ensures.0 c.supply_at.ensures.0
    c.saturating_sub-offered.ensures c.saturating_sub.ensures
    c.min.ensures c.saturating_sub-2.ensures
