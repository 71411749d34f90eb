-- `down_fault` meets its contract: the edition picks the case.
-- Assumes nothing.
use mathlib.Core.Path.{◌∙◌, sym}
use borrow.Author.Tests.{eq-eqb, ne_eqb}
use Rattle.laws.proofs.Cases.{cond-true, cond-false}
use Rattle.convert.proofs.down_fault.Goals as goal

pub returns-then-edition-eq1 : goal.returns-then-edition-eq1
returns-then-edition-eq1 c = sym (cond-true _ _ _ (eq-eqb _ _ c.if-edition-eq1.true))

pub returns : goal.returns
returns c = c.steps_fault.ensures ∙ sym (cond-false _ _ _ (ne_eqb _ _ c.if-edition-eq1.false))
