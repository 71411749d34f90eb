-- `hold` holds each row's key to the limit. The loop's invariant: the keys of the rows passed are stands_after to it.
-- Assumes nothing.
use mathlib.Core.Path.{◌≡◌}
use Rattle.laws.specs.Filled.{filled}
use Rattle.contest.specs.inner.Sieve.{stands_after}
use Rattle.contest.proofs.hold.Given as goal

abbrev pub invariant-loop-i : goal.invariant-loop-i
invariant-loop-i l = (l.standings ≡ filled (stands_after l.keys l.initial.standings l.limit) l.i l.initial.standings)
