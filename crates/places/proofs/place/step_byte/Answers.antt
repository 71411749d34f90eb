-- `step_byte` tells a step's byte by the edition.
-- Assumes nothing.
use mathlib.Core.Path.{refl}
use borrow.Author.Tests.{eq-eqb, ne_eqb}
use Rattle.places.proofs.place.step_byte.Goals as goal

pub returns-then-edition-eq1 : goal.returns-then-edition-eq1
returns-then-edition-eq1 c = rw (eq-eqb _ _ c.if-edition-eq1.true) refl

pub returns-else-edition-eq1 : goal.returns-else-edition-eq1
returns-else-edition-eq1 c = rw (ne_eqb _ _ c.if-edition-eq1.false) refl
