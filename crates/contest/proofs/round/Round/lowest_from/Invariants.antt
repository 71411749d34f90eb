-- `lowest_from` finds the next key. The loop's invariant: it is the next of the rows passed.
-- Assumes nothing.
use Rattle.contest.specs.inner.Sieve.{key_at}
use Rattle.contest.specs.inner.Nearest.{LowestFrom}
use Rattle.contest.proofs.round.Round.lowest_from.Given as goal

abbrev pub invariant-loop-i : goal.invariant-loop-i
invariant-loop-i l = LowestFrom (key_at l.self.keys.now) l.i l.low l.high l.lowest
