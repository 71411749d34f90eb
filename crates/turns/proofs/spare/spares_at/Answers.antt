-- `spares_at` is what the parts rounded down leave of a level's amount.
-- Assumes nothing.
use Rattle.levels.specs.inner.Asks.{offers_in}
use Rattle.turns.proofs.Leveled.{level-parted, parts-most, parts-spare}
use Rattle.turns.proofs.spare.spares_at.Goals as goal

pub parts_at-requires : goal.parts_at-requires
parts_at-requires c = level-parted _ _ _ _ _ _ c.requires c.level_at-level.ensures

pub overflow_sub-result : goal.overflow_sub-result
overflow_sub-result c =
    parts-most (offers_in c.args.asks.now) c.args.x c.args.price c.requires _ c.level_at-level.ensures c.parts_at.ensures

pub returns : goal.returns
returns c =
    parts-spare (offers_in c.args.asks.now) c.args.x c.args.price c.requires _ c.level_at-level.ensures c.parts_at.ensures
