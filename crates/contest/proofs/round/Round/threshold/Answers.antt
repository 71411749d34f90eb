-- `threshold` finds a key that parts the contenders. The loop's invariant: at most `spare` contend under the first of two
-- numbers, and more under the second.
-- Assumes nothing.
use native.Mathlib.Omega.{arith}
use borrow.Author.Tests.{ltb-true, ltb-false}
use Rattle.contest.proofs.Parting.{parts-top}
use Rattle.contest.proofs.Closing.{begun, found-exact, found-next}
use Rattle.contest.proofs.round.Round.threshold.Goals as goal

pub returns-then-many-self : goal.returns-then-many-self
returns-then-many-self c =
    record {
      parts =
          parts-top _ _ _ _ _
          (λ i l. c.highest_to-high.ensures.none i l (omega (arith, c.args.self.now.narrow i)))
          (omega (arith, c.under-many.ensures.0));
      won = c.under-many.ensures.0;
    }

pub loop-b-init : goal.loop-b-init
loop-b-init c =
    let counted = c.under-many.ensures in
    begun _ _ _ _ _ _ _ (λ i l. c.lowest_from.ensures.none i l (omega arith)) counted.0 c.if-many-self.false counted.1

pub probe-requires : goal.probe-requires
probe-requires c =
    let between = c.loop-b.invariant in
    record {
      some = c.loop-b-test.true;
      short = between.short;
      book = between.book;
      room = omega (arith, ltb-true);
    }

pub turn-next-requires : goal.turn-next-requires
turn-next-requires c =
    record {
      between = c.loop-b.invariant;
      low_le_mid = omega (arith, c.probe.ensures);
    }

pub loop-b-smaller : goal.loop-b-smaller
loop-b-smaller c =
    let inside = c.probe.ensures in
    omega (arith, c.turn-next.ensures.nearer inside.0 inside.1, c.loop-b.invariant.ordered)

pub loop-b-preserved : goal.loop-b-preserved
loop-b-preserved c = c.turn-next.ensures.closer.between

pub returns-else-b-gt1 : goal.returns-else-b-gt1
returns-else-b-gt1 c =
    let between = c.loop-b.invariant in
    record { parts = found-next _ _ _ _ _ between (omega (arith, ltb-false)); won = between.few }

pub returns-after-loop-b : goal.returns-after-loop-b
returns-after-loop-b c =
    let between = c.loop-b.invariant in
    record { parts = found-exact _ _ _ _ _ between (omega arith); won = between.few }
