-- `columns_hold` joins the tests of the columns; in edition 1 no step is tested.
-- Assumes nothing.
use mathlib.Core.Bool.{and-true}
use borrow.Author.Tests.{eq-eqb, ne_eqb}
use Rattle.reading.proofs.lanes.columns_hold.Goals as goal

pub returns-then-edition-eq1 : goal.returns-then-edition-eq1
returns-then-edition-eq1 c = rw (eq-eqb _ _ c.if-edition-eq1.true, and-true) c.values_hold-values.ensures

pub returns : goal.returns
returns c = simp (ne_eqb _ _ c.if-edition-eq1.false, c.values_hold-values.ensures, c.steps_hold.ensures)
