-- `contenders_at` counts the rows at a price. The loop's invariant: those of the rows passed.
-- Assumes nothing.
use mathlib.Core.Path.{◌≡◌}
use mathlib.Core.Bool.{cond}
use Prim.Native.Nat.{◌≤◌}
use lib.ListN.{get_or}
use lib.Dec.{eqb}
use Rattle.laws.specs.Sum.{sum_to}
use Rattle.turns.proofs.spare.contenders_at.Given as goal

abbrev pub invariant-loop-held : goal.invariant-loop-held
invariant-loop-held l =
    (l.count ≡ sum_to (λ i. cond (eqb (get_or l.prices i 0) l.price) 1 0) l.held-index) × (l.count ≤ l.held-index)
