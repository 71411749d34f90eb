-- `values::place::step_of` meets its contract: the edition picks the case.
-- Assumes nothing.
use borrow.Author.Tests.{eq-eqb, ne_eqb}
use Rattle.values.proofs.place.step_of.Goals as goal

pub returns-then-edition-eq1 : goal.returns-then-edition-eq1
returns-then-edition-eq1 c = simp (eq-eqb _ _ c.if-edition-eq1.true)

pub returns-else-edition-eq1 : goal.returns-else-edition-eq1
returns-else-edition-eq1 c = simp (ne_eqb _ _ c.if-edition-eq1.false)
