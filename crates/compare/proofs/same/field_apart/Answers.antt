-- `field_apart` asks field after field.
-- Assumes nothing.
use borrow.Author.Tests.{ne_eqb, eq-eqb}
use Rattle.compare.specs.Same.{field_apart}
use Rattle.compare.proofs.Sames.{values-differ, values-agree}
use Rattle.compare.proofs.same.field_apart.Goals as goal

pub returns-then-p-other : goal.returns-then-p-other
unfolding field_apart
returns-then-p-other c = rw (ne_eqb _ _ c.if-p-other.true)

pub returns-then-ne : goal.returns-then-ne
unfolding field_apart
returns-then-ne c = rw (eq-eqb _ _ c.if-p-other.false, values-differ _ _ c.ne.ensures c.if-ne.true)

pub returns-then-ne-2 : goal.returns-then-ne-2
unfolding field_apart
returns-then-ne-2 c = rw (eq-eqb _ _ c.if-p-other.false, values-agree _ _ c.ne.ensures c.if-ne.false, values-differ _ _ c.ne-2.ensures c.if-ne-2.true)

pub returns-then-ne-3 : goal.returns-then-ne-3
unfolding field_apart
returns-then-ne-3 c = rw (eq-eqb _ _ c.if-p-other.false, values-agree _ _ c.ne.ensures c.if-ne.false, values-agree _ _ c.ne-2.ensures c.if-ne-2.false, values-differ _ _ c.ne-3.ensures c.if-ne-3.true)

pub returns-then-ne-4 : goal.returns-then-ne-4
unfolding field_apart
returns-then-ne-4 c = rw (eq-eqb _ _ c.if-p-other.false, values-agree _ _ c.ne.ensures c.if-ne.false, values-agree _ _ c.ne-2.ensures c.if-ne-2.false, values-agree _ _ c.ne-3.ensures c.if-ne-3.false, values-differ _ _ c.ne-4.ensures c.if-ne-4.true)

pub returns-then-ne-5 : goal.returns-then-ne-5
unfolding field_apart
returns-then-ne-5 c = rw (eq-eqb _ _ c.if-p-other.false, values-agree _ _ c.ne.ensures c.if-ne.false, values-agree _ _ c.ne-2.ensures c.if-ne-2.false, values-agree _ _ c.ne-3.ensures c.if-ne-3.false, values-agree _ _ c.ne-4.ensures c.if-ne-4.false, values-differ _ _ c.ne-5.ensures c.if-ne-5.true)

pub returns : goal.returns
unfolding field_apart
returns c = rw (eq-eqb _ _ c.if-p-other.false, values-agree _ _ c.ne.ensures c.if-ne.false, values-agree _ _ c.ne-2.ensures c.if-ne-2.false, values-agree _ _ c.ne-3.ensures c.if-ne-3.false, values-agree _ _ c.ne-4.ensures c.if-ne-4.false, values-agree _ _ c.ne-5.ensures c.if-ne-5.false)
