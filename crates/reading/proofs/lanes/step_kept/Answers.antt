-- `step_kept` joins the comparisons of a row with the row before it.
-- Assumes nothing.
use mathlib.Core.Bool.{and_assoc}
use Rattle.reading.specs.inner.Lanes.{step_kept}
use Rattle.reading.proofs.lanes.step_kept.Goals as goal

pub returns : goal.returns
unfolding step_kept
returns c = simp and_assoc
