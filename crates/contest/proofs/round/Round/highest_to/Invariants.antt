-- `highest_to` finds the last key. The loop's invariant: it is the last of the rows passed.
-- Assumes nothing.
use Rattle.contest.specs.inner.Sieve.{key_at}
use Rattle.contest.specs.inner.Nearest.{HighestTo}
use Rattle.contest.proofs.round.Round.highest_to.Given as goal

abbrev pub invariant-loop-i : goal.invariant-loop-i
invariant-loop-i l = HighestTo (key_at l.self.keys.now) l.i l.low l.top l.highest
