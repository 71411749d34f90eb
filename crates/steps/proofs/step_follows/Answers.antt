-- `step_follows` joins the four tests that its callees and comparisons make.
-- Assumes nothing.
use mathlib.Core.Bool.{and_assoc}
use Rattle.steps.specs.Steps.{step_follows}
use Rattle.steps.proofs.step_follows.Goals as goal

pub returns : goal.returns
unfolding step_follows
returns c = simp (and_assoc, c.from.ensures, c.from-2.ensures, c.not_cheaper.ensures, c.is_flexible.ensures)
