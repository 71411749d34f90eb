-- `rival_at` is the row at the other side of the cut, if any tenth is spare.
-- Assumes nothing.
use mathlib.Core.Path.{sym, ◌∙◌}
use Rattle.columns.specs.inner.Sides.{offers_in}
use Rattle.turns.proofs.Turning.{placed-within, rival-no-spare, rival-none, rival-against}
use Rattle.turns.proofs.turn.rival_at.Goals as goal

pub returns-then-spares-eq0 : goal.returns-then-spares-eq0
returns-then-spares-eq0 c =
    rival-no-spare (offers_in c.args.rows.now) c.args.x c.args.row (sym c.requires.spares_value ∙ c.if-spares-eq0.true)

pub contender_at-contender-requires : goal.contender_at-contender-requires
contender_at-contender-requires c = placed-within _ _ _ _ _ c.in_ok-other.ensures

pub returns-in_err-other : goal.returns-in_err-other
returns-in_err-other c =
    c.from_residual.ensures
    ∙ rival-none (offers_in c.args.rows.now) c.args.x c.args.row _ _ _ c.requires.place_value c.requires.spares_value
    c.other_side.ensures c.if-spares-eq0.false c.in_err-other.ensures

pub returns : goal.returns
returns c =
    rival-against (offers_in c.args.rows.now) c.args.x c.args.row _ _ _ c.requires.place_value c.requires.spares_value
    c.other_side.ensures c.if-spares-eq0.false _ _ _ _ c.in_ok-other.ensures
    c.contender_at-own.ensures c.contender_at-contender.ensures c.decided.ensures
