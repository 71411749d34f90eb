-- `rung_at` goes by whether there is such a price.
-- Assumes nothing.
use mathlib.Core.Path.{◌∙◌}
use Rattle.ladder.proofs.Rungs.{rung-reached, rung-none}
use Rattle.ladder.proofs.rung.rung_at.Goals as goal

pub returns-in_err-price : goal.returns-in_err-price
returns-in_err-price c = c.from_residual.ensures ∙ rung-none _ _ _ _ c.in_err-price.ensures

pub returns : goal.returns
returns c = rung-reached _ _ _ _ _ _ c.in_ok-price.ensures c.rung_of.ensures
