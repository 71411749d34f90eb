-- `values::value_at` meets its contract: the mark's test picks the case.
-- Assumes nothing.
use mathlib.Core.Path.{ap}
use borrow.Author.Tests.{eq-eqb, ne_eqb}
use Rattle.values.specs.declared.Value.TheVariants.{Given}
use Rattle.values.proofs.value_at.Goals as goal

pub returns-then-marks-weight-eq1 : goal.returns-then-marks-weight-eq1
returns-then-marks-weight-eq1 c = simp (eq-eqb _ _ c.if-marks-weight-eq1.true) (ap Given c.u32_at-number.ensures.0)

pub returns-else-marks-weight-eq1 : goal.returns-else-marks-weight-eq1
returns-else-marks-weight-eq1 c = simp (ne_eqb _ _ c.if-marks-weight-eq1.false)
