-- `unrepeated_rows` passes no repeat. The loop's invariant: no row passed is one, and both flags of its resource number are set.
-- Assumes nothing.
use mathlib.Core.Path.{◌≡◌}
use mathlib.Core.Bool.{true}
use Prim.Native.Nat.{◌≤◌, ◌-◌}
use lib.ListN.{get_or}
use Rattle.laws.specs.Sum.{every}
use Rattle.repeats.specs.Repeats.{no_repeat}
use Rattle.repeats.proofs.Marked.{Marked}
use Rattle.repeats.proofs.flags.unrepeated_rows.Given as goal

abbrev pub invariant-loop-row : goal.invariant-loop-row
invariant-loop-row l =
    (l.row ≤ l.n)
    × (every (no_repeat (λ r. get_or l.resources r 0) (λ r. get_or l.steps r 0)) l.row ≡ true)
    × Marked (λ r. get_or l.resources r 0) l.met l.row

abbrev pub decreases-loop-row : goal.decreases-loop-row
decreases-loop-row l = l.n - l.row
