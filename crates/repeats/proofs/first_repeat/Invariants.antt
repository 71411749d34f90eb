-- `first_repeat` is the first row with step 1 whose resource number stands in an earlier row. The rows' invariant: no row passed is
-- a repeat, as `unrepeated_rows` gives it. The inner loop's: by none of the earlier rows passed is the row one.
-- Assumes nothing.
use mathlib.Core.Path.{◌≡◌}
use mathlib.Core.Bool.{true, not, ◌&&◌}
use Prim.Native.Nat.{◌≤◌}
use lib.Dec.{eqb}
use lib.ListN.{get_or}
use Rattle.laws.specs.Sum.{every}
use Rattle.repeats.specs.Repeats.{no_repeat}
use Rattle.repeats.proofs.first_repeat.Given as goal

abbrev pub invariant-loop-earlier : goal.invariant-loop-earlier
invariant-loop-earlier l =
    (l.found ≡ l.n)
    × (every (λ e. not (eqb (get_or l.steps l.row 0) 1 && eqb (get_or l.resources e 0) (get_or l.resources l.row 0))) l.earlier ≡ true)

abbrev pub invariant-rows : goal.invariant-rows
invariant-rows l =
    (l.found ≡ l.n) × (l.row ≤ l.n) × (every (no_repeat (λ r. get_or l.resources r 0) (λ r. get_or l.steps r 0)) l.row ≡ true)
