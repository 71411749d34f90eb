-- `missing_in` reads the year and the marks of block 0.
-- Assumes nothing.
use mathlib.Core.Path.{◌∙◌}
use Rattle.limits.proofs.Marks.{marks-missing}
use Rattle.limits.proofs.parameters.missing_in.Goals as goal

pub returns : goal.returns
returns c = c.missing.ensures ∙ marks-missing _ _ c.u16_at.ensures.0
