-- `settle` puts what each row receives in the place of its standing. The loop's invariant: it stands there in the rows passed.
-- Assumes nothing.
use mathlib.Core.Path.{◌≡◌}
use Rattle.laws.specs.Filled.{filled}
use Rattle.contest.specs.inner.Sieve.{settled}
use Rattle.contest.proofs.settle.Given as goal

abbrev pub invariant-loop-i : goal.invariant-loop-i
invariant-loop-i l = (l.standings ≡ filled (settled l.initial.standings l.left) l.i l.initial.standings)
