-- `under` counts the contenders under a limit. The loop's invariant: those of the rows passed.
-- Assumes nothing.
use mathlib.Core.Path.{◌≡◌}
use Prim.Native.Nat.{◌≤◌}
use Rattle.contest.specs.inner.Contest.{contenders}
use Rattle.contest.specs.inner.Sieve.{count_under, key_at}
use Rattle.contest.proofs.round.Round.under.Given as goal

abbrev pub invariant-loop-i : goal.invariant-loop-i
invariant-loop-i l = (l.count ≡ count_under (contenders l.self.standings.now) (key_at l.self.keys.now) l.limit l.i) × (l.count ≤ l.i)
