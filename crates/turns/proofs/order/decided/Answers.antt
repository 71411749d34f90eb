-- `decided` is the first key that differs.
-- Assumes nothing.
use borrow.Author.Tests.{eq-eqb, ne_eqb}
use Rattle.turns.specs.inner.Contending.{decided_of}
use Rattle.turns.proofs.order.decided.Goals as goal

pub returns-then-a-b : goal.returns-then-a-b
unfolding decided_of
returns-then-a-b c = rw (ne_eqb _ _ c.if-a-b.true)

pub returns-then-a-b-2 : goal.returns-then-a-b-2
unfolding decided_of
returns-then-a-b-2 c = rw (eq-eqb _ _ c.if-a-b.false, ne_eqb _ _ c.if-a-b-2.true)

pub returns-then-a-b-3 : goal.returns-then-a-b-3
unfolding decided_of
returns-then-a-b-3 c = rw (eq-eqb _ _ c.if-a-b.false, eq-eqb _ _ c.if-a-b-2.false, ne_eqb _ _ c.if-a-b-3.true)

pub returns-else-a-b-3 : goal.returns-else-a-b-3
unfolding decided_of
returns-else-a-b-3 c = rw (eq-eqb _ _ c.if-a-b.false, eq-eqb _ _ c.if-a-b-2.false, eq-eqb _ _ c.if-a-b-3.false)
