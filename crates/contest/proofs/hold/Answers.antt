-- `hold` holds each row's key to the limit. The loop's invariant: the keys of the rows passed are stands_after to it.
-- Assumes nothing.
use native.Mathlib.Nat.{le_refl}
use Rattle.laws.proofs.Fills.{filled_none, filled_more}
use Rattle.laws.proofs.FilledRows.{filled-past}
use Rattle.contest.specs.inner.Sieve.{stands_after}
use Rattle.contest.proofs.hold.Goals as goal

pub loop-i-init : goal.loop-i-init
loop-i-init c = filled_none _ _

pub loop-i-preserved : goal.loop-i-preserved
unfolding stands_after
loop-i-preserved c =
    filled_more _ _ _ c.loop-i.invariant
    (rw (filled-past _ _ _ c.loop-i.invariant c.loop-i.i (le_refl _)) at c.sifted.ensures)
