-- `under` counts the contenders under a limit. The loop's invariant: those of the rows passed.
-- Assumes nothing.
use native.Mathlib.Omega.{arith}
use Rattle.laws.specs.Sum.{sum_where, count_where}
use Rattle.laws.proofs.Loops.{added_none, added_more}
use Rattle.contest.specs.inner.Sieve.{count_under}
use Rattle.contest.proofs.round.Round.under.Goals as goal

pub loop-i-init : goal.loop-i-init
unfolding count_under count_where sum_where
loop-i-init c = (added_none _, omega arith)

pub loop-i-preserved : goal.loop-i-preserved
unfolding count_under count_where sum_where
loop-i-preserved c = (added_more _ _ c.loop-i.invariant.0 c.counted-count.ensures.0, omega arith)
