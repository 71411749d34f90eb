-- `levels::level::stops` meets its contract: the test of the price picks the case.
-- Assumes nothing.
use borrow.Author.Tests.{eq-eqb, ne_eqb}
use Rattle.levels.specs.inner.Reach.{stops_there}
use Rattle.levels.proofs.level.stops.Goals as goal

pub returns-then-level-eq1000000 : goal.returns-then-level-eq1000000
unfolding stops_there
returns-then-level-eq1000000 c = simp (eq-eqb _ _ c.if-level-eq1000000.true)

pub returns-else-level-eq1000000 : goal.returns-else-level-eq1000000
unfolding stops_there
returns-else-level-eq1000000 c = simp (ne_eqb _ _ c.if-level-eq1000000.false)
