-- `contest_at` is the contest of a level.
-- Assumes nothing.
use mathlib.Core.Path.{◌∙◌}
use Rattle.turns.proofs.Turning.{contenders-rows}
use Rattle.workings.proofs.Contested.{contest-is}
use Rattle.workings.proofs.spares.contest_at.Goals as goal

pub spares_at-spares-requires : goal.spares_at-spares-requires
spares_at-spares-requires c = c.args.rows.now.ordered.positive

pub contenders_at-contenders-requires : goal.contenders_at-contenders-requires
contenders_at-contenders-requires c = c.args.rows.now.asks.listed.few

pub holder_at-requires : goal.holder_at-requires
holder_at-requires c = c.contenders_at-contenders.ensures ∙ contenders-rows c.args.rows.now _

pub returns : goal.returns
returns c =
    contest-is c.args.rows.now _ _ _ _ _ _ c.spares_at-spares.ensures c.contenders_at-contenders.ensures c.holder_at.ensures
