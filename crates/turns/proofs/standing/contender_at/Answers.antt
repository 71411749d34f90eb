-- `contender_at` is what a row contends with at its own level.
-- Assumes nothing.
use mathlib.Core.Path.{refl}
use Rattle.columns.specs.inner.Sides.{offers_in}
use Rattle.turns.proofs.Leveled.{level-parted, level-rows}
use Rattle.turns.proofs.Ordering.{contender-found}
use Rattle.turns.proofs.standing.contender_at.Goals as goal

pub contender_of-requires : goal.contender_of-requires
contender_of-requires c =
    let found = level-parted _ _ _ _ _ _ c.args.rows.now.ordered.positive c.level_at-level.ensures in
    (c.requires, found.some _ c.requires refl)

pub returns : goal.returns
returns c =
    contender-found (offers_in c.args.rows.now) c.args.x c.args.row _ _ (level-rows c.args.rows.now _ _ _ c.level_at-level.ensures)
    c.contender_of.ensures
