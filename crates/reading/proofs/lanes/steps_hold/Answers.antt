-- `steps_hold` says whether each row has step 1 or stands behind the step before it. The loop's invariant: so it is of the rows passed,
-- of which row 0 is one.
-- Assumes nothing.
use mathlib.Core.Path.{refl, sym, ap, ap₂, ◌∙◌}
use mathlib.Core.Bool.{◌&&◌}
use native.Mathlib.Numerals.{add-one}
use native.Mathlib.Omega.{arith}
use borrow.Author.Tests.{lt-ltb}
use Rattle.laws.specs.Sum.{every}
use Rattle.laws.proofs.Cases.{cond-true}
use Rattle.laws.proofs.Everys.{every-zero, every-suc}
use Rattle.reading.proofs.lanes.steps_hold.Goals as goal

pub returns-then-n-eq0 : goal.returns-then-n-eq0
returns-then-n-eq0 c = let none = c.if-n-eq0.true in rw none (sym (every-zero _))

pub loop-row-init : goal.loop-row-init
loop-row-init c = (
  (omega arith, omega arith),
  sym (every-suc _ 0 ∙ ap₂ ◌&&◌ (every-zero _) refl),
)

pub loop-row-preserved : goal.loop-row-preserved
loop-row-preserved c = (
  (omega arith, omega arith),
  rw (add-one, every-suc)
      (ap₂ ◌&&◌ c.loop-row.invariant.1
      (c.step_kept-all.ensures ∙ sym (cond-true _ _ _ (lt-ltb 0 _ c.loop-row.invariant.0.0)))),
)

pub returns : goal.returns
returns c = c.loop-row.invariant.1 ∙ ap (every _) (omega arith)
