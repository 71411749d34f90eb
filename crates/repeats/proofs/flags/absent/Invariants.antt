-- `absent` says whether a number stands in none of the rows. The loop's invariant: so it is of the rows passed.
-- Assumes nothing.
use mathlib.Core.Path.{◌≡◌}
use mathlib.Core.Bool.{not}
use Prim.Native.Nat.{◌≤◌, ◌-◌}
use lib.Dec.{eqb}
use lib.ListN.{get_or}
use Rattle.laws.specs.Sum.{every}
use Rattle.repeats.proofs.flags.absent.Given as goal

abbrev pub invariant-loop-row : goal.invariant-loop-row
invariant-loop-row l = (l.row ≤ l.n) × (l.none ≡ every (λ r. not (eqb (get_or l.resources r 0) l.number)) l.row)

abbrev pub decreases-loop-row : goal.decreases-loop-row
decreases-loop-row l = l.n - l.row
