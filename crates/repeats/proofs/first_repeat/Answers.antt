-- `first_repeat` is the first row with step 1 whose resource number stands in an earlier row. The rows' invariant: no row passed is
-- a repeat, as `unrepeated_rows` gives it. The inner loop's: by none of the earlier rows passed is the row one.
-- Assumes nothing.
use mathlib.Core.Path.{ap, ◌∙◌}
use mathlib.Core.Bool.{not}
use native.Mathlib.Omega.{arith}
use Rattle.laws.specs.Sum.{every}
use Rattle.laws.proofs.Everys.{every-zero}
use Rattle.repeats.proofs.Failing.{every_more}
use Rattle.repeats.proofs.Fresh.{repeat-searched, repeat-none, repeat-found}
use Rattle.repeats.proofs.first_repeat.Goals as goal

pub loop-earlier-init : goal.loop-earlier-init
loop-earlier-init c = (c.rows.invariant.0, every-zero _)

pub loop-earlier-preserved : goal.loop-earlier-preserved
loop-earlier-preserved c =
    (c.loop-earlier.invariant.0, every_more _ _ c.loop-earlier.invariant.1 (ap not c.if-steps-row.false))

pub rows-preserved : goal.rows-preserved
rows-preserved c = (
  c.loop-earlier.invariant.0,
  omega arith,
  every_more _ _ c.rows.invariant.2
      (repeat-searched _ _ _ (ap (every _) (omega arith) ∙ c.loop-earlier.invariant.1)),
)

pub returns-after-rows : goal.returns-after-rows
returns-after-rows c =
    let last = repeat-none _ _ _ _ c.rows.invariant.2 c.rows.invariant.1 c.rows-test.false in
    (omega (arith, last), omega arith)

pub returns-then-steps-row : goal.returns-then-steps-row
returns-then-steps-row c = (
  repeat-found _ _ _ _ c.rows.invariant.2 _
      c.rows-test.true
      c.loop-earlier-test.true
      c.if-steps-row.true,
  omega arith,
)
