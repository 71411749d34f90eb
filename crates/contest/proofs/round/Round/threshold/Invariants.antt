-- `threshold` finds a key that parts the contenders. The loop's invariant: at most `spare` contend under the first of two
-- numbers, and more under the second.
-- Assumes nothing.
use Prim.Native.Nat.{◌-◌}
use lib.ListN.{length}
use Rattle.contest.specs.inner.Contest.{contenders}
use Rattle.contest.specs.inner.Sieve.{key_at}
use Rattle.contest.specs.inner.Search.{Between}
use Rattle.contest.proofs.round.Round.threshold.Given as goal

abbrev pub invariant-loop-b : goal.invariant-loop-b
invariant-loop-b l = Between (contenders l.self.standings.now) (key_at l.self.keys.now) (length l.self.standings.now) l.self.spare l.b

abbrev pub decreases-loop-b : goal.decreases-loop-b
decreases-loop-b l = l.b.high - l.b.low
