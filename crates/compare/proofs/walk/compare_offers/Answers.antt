-- `compare_offers` walks both books from one row at or below the price to the next. The loop's invariant: all offers before agree.
-- Assumes nothing.
use native.Mathlib.Numerals.{add-one}
use native.Mathlib.Omega.{arith}
use Rattle.compare.proofs.BookWalks.{walk_none, walk_more, walk-differ, walk_first, walk-second, walk-all}
use Rattle.compare.proofs.walk.compare_offers.Goals as goal

pub next_row-i-requires : goal.next_row-i-requires
next_row-i-requires c = (c.requires.0, omega arith)

pub next_row-j-requires : goal.next_row-j-requires
next_row-j-requires c = (c.requires.1, omega arith)

pub loop-i-init : goal.loop-i-init
loop-i-init c = walk_none _ _ _ _ _ _ _ c.next_row-i.ensures c.next_row-j.ensures

pub overflow_cast-result : goal.overflow_cast-result
overflow_cast-result c = omega (arith, c.loop-i.invariant.most, c.requires.0.few)

pub returns-then-m-j : goal.returns-then-m-j
returns-then-m-j c = walk_first _ _ _ _ _ _ _ _ c.loop-i.invariant c.loop-i-test.true c.if-m-j.true

pub same_rows-requires : goal.same_rows-requires
same_rows-requires c = (
  c.requires.0.within c.loop-i.i c.loop-i-test.true,
  c.requires.1.within c.loop-i.j c.if-m-j.false,
)

pub overflow_cast-result-then-not-same_rows : goal.overflow_cast-result-then-not-same_rows
overflow_cast-result-then-not-same_rows c = omega (arith, c.loop-i.invariant.most, c.requires.0.few)

pub overflow_cast-result-then-not-same_rows-2 : goal.overflow_cast-result-then-not-same_rows-2
overflow_cast-result-then-not-same_rows-2 c = omega (arith, c.loop-i.invariant.most', c.requires.1.few)

pub returns-then-not-same_rows : goal.returns-then-not-same_rows
returns-then-not-same_rows c =
    walk-differ _ _ _ _ _ _ _ _ c.loop-i.invariant _ c.loop-i-test.true
    c.if-m-j.false c.same_rows.ensures c.if-not-same_rows.true

pub overflow_add-shared : goal.overflow_add-shared
overflow_add-shared c = omega (arith, c.loop-i.invariant.few, c.loop-i.invariant.most, c.requires.0.few)

pub overflow_add-i : goal.overflow_add-i
overflow_add-i c = omega (arith, c.loop-i.invariant.most, c.requires.0.few)

pub next_row-i-requires-in-loop-i : goal.next_row-i-requires-in-loop-i
next_row-i-requires-in-loop-i c = (c.requires.0, omega (arith, c.loop-i-test.true))

pub overflow_add-j : goal.overflow_add-j
overflow_add-j c = omega (arith, c.loop-i.invariant.most', c.requires.1.few)

pub next_row-j-requires-in-loop-i : goal.next_row-j-requires-in-loop-i
next_row-j-requires-in-loop-i c = (c.requires.1, omega (arith, c.if-m-j.false))

pub loop-i-smaller : goal.loop-i-smaller
loop-i-smaller c = omega (arith, c.next_row-i-in-loop-i.ensures.least, c.loop-i.invariant.most, c.loop-i-test.true)

pub loop-i-preserved : goal.loop-i-preserved
loop-i-preserved c =
    rw (add-one c.loop-i.shared)
    (walk_more _ _ _ _ _ _ _ _ c.loop-i.invariant _ _ _ c.loop-i-test.true c.if-m-j.false
    c.same_rows.ensures c.if-not-same_rows.false (rw (add-one c.loop-i.i) at c.next_row-i-in-loop-i.ensures)
    (rw (add-one c.loop-i.j) at c.next_row-j-in-loop-i.ensures))

pub overflow_cast-result-then-j-m : goal.overflow_cast-result-then-j-m
overflow_cast-result-then-j-m c = omega (arith, c.loop-i.invariant.most', c.requires.1.few)

pub returns-then-j-m : goal.returns-then-j-m
returns-then-j-m c = walk-second _ _ _ _ _ _ _ _ c.loop-i.invariant c.loop-i-test.false c.if-j-m.true

pub returns : goal.returns
returns c = walk-all _ _ _ _ _ _ _ _ c.loop-i.invariant c.loop-i-test.false c.if-j-m.false
