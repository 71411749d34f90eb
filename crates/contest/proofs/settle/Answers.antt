-- `settle` puts what each row receives in the place of its standing. The loop's invariant: it stands there in the rows passed.
-- Assumes nothing.
use native.Mathlib.Nat.{le_refl}
use Rattle.laws.proofs.Fills.{filled_none, filled_more}
use Rattle.laws.proofs.FilledRows.{filled-past}
use Rattle.contest.specs.inner.Sieve.{settled}
use Rattle.contest.proofs.settle.Goals as goal

pub loop-i-init : goal.loop-i-init
loop-i-init c = filled_none _ _

pub loop-i-preserved : goal.loop-i-preserved
unfolding settled
loop-i-preserved c =
    filled_more _ _ _ c.loop-i.invariant
    (rw (filled-past _ _ _ c.loop-i.invariant c.loop-i.i (le_refl _)) at c.received.ensures)
