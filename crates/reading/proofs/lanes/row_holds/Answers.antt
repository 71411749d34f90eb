-- `row_holds` joins the comparisons of a row's own columns.
-- Assumes nothing.
use mathlib.Core.Bool.{and_assoc}
use Rattle.reading.specs.inner.Lanes.{row_holds}
use Rattle.reading.proofs.lanes.row_holds.Goals as goal

pub returns : goal.returns
unfolding row_holds
returns c = simp and_assoc
