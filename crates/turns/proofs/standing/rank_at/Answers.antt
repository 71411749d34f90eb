-- `rank_at` is a row's rank: how many stand before its contender.
-- Assumes nothing.
use Rattle.columns.specs.inner.Sides.{offers_in}
use Rattle.turns.proofs.Leveled.{level-parted, level-rows}
use Rattle.turns.proofs.Ordering.{rank-found}
use Rattle.turns.proofs.standing.rank_at.Goals as goal

pub before_in-requires : goal.before_in-requires
before_in-requires c = level-parted _ _ _ _ _ _ c.args.rows.now.ordered.positive c.level_at-level.ensures

pub returns : goal.returns
returns c = (
  rank-found (offers_in c.args.rows.now) c.args.x c.args.row _ _ _ (level-rows c.args.rows.now _ _ _ c.level_at-level.ensures)
      c.contender_at-own.ensures c.before_in.ensures.0,
  c.before_in.ensures.1,
)
