-- `parts_at` sums the parts of a level rounded down. The loop's invariant: the sum over the rows passed, each of which adds at most
-- 200,000.
-- Assumes nothing.
use mathlib.Core.Path.{◌≡◌}
use mathlib.Core.Bool.{cond}
use mathlib.Core.List.{List}
use Prim.Native.Nat.{ℕ, ◌*◌, ◌/◌, ◌≤◌}
use lib.ListN.{length, get_or}
use lib.Dec.{eqb}
use Rattle.laws.specs.Sum.{sum_to}
use Rattle.reasons.specs.declared.share.Received.{Received}
use Rattle.turns.proofs.level.parts_at.Given as goal

abbrev pub adds : List ℕ → List ℕ → ℕ → Received → ℕ → ℕ
adds prices quantities price level row =
    cond (eqb (get_or prices row 0) price) (get_or quantities row 0 * level.amount / level.sum) 0

abbrev pub invariant-loop-row : goal.invariant-loop-row
invariant-loop-row l =
    (l.row ≤ length l.asks.prices.now)
    × (l.sum ≡ sum_to (adds l.asks.prices.now l.asks.quantities.now l.price l.level) l.row)
    × (l.sum ≤ 200000 * l.row)
