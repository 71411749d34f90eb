-- `placed_at` is who stands at a place: the row found there, if any.
-- Assumes nothing.
use mathlib.Core.Path.{◌∙◌}
use Rattle.turns.proofs.Turning.{placed-within, placed-held, placed-no-one}
use Rattle.turns.proofs.place.placed_at.Goals as goal

pub returns-in_err-row : goal.returns-in_err-row
returns-in_err-row c = c.from_residual.ensures ∙ placed-no-one _ _ _ _ c.in_err-row.ensures

pub contender_at-requires : goal.contender_at-requires
contender_at-requires c = placed-within _ _ _ _ _ c.in_ok-row.ensures

pub returns : goal.returns
returns c = placed-held _ _ _ _ _ _ c.in_ok-row.ensures c.contender_at.ensures
