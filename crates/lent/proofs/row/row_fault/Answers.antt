-- `row_fault` asks for the row before where the row is past step 1.
-- Assumes nothing.
use mathlib.Core.Path.{refl, sym, ◌∙◌}
use mathlib.Core.Bool.{false}
use borrow.Author.Tests.{ne_eqb}
use Rattle.limits.specs.Offers.{step_fault}
use Rattle.limits.specs.inner.Rows.{row_fault, past_fault}
use Rattle.limits.proofs.Tested.{row_fault-first}
use Rattle.steps.specs.Steps.{step_holds}
use Rattle.lent.proofs.row.row_fault.Goals as goal

pub returns-then-o-eq1 : goal.returns-then-o-eq1
returns-then-o-eq1 c = c.offer_fault.ensures ∙ sym (row_fault-first false _ _ _ _ c.if-o-eq1.true)

pub returns : goal.returns
unfolding row_fault past_fault step_fault step_holds
returns c =
    let a = c.args in
    c.past_fault.ensures
    ∙ rw (ne_eqb a.o.step 1 c.if-o-eq1.false, c.step_follows.ensures, c.offer_before.ensures) refl
