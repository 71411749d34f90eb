-- `levels::asks::Asks::supply_at` is the supply at a price. The loop's invariant: the sum over the rows passed, each of which
-- adds at most 200,000.
-- Assumes nothing.
use mathlib.Core.Path.{◌≡◌}
use mathlib.Core.Bool.{cond}
use Prim.Native.Nat.{ℕ, ◌≤◌, ◌*◌, ◌-◌}
use mathlib.Core.List.{List}
use lib.ListN.{get_or, length}
use lib.Dec.{leb}
use Rattle.laws.specs.Sum.{sum_to}
use Rattle.levels.proofs.asks.Asks.supply_at.Given as goal

abbrev pub takes : List ℕ → List ℕ → ℕ → ℕ → ℕ
takes prices quantities limit row = cond (leb (get_or prices row 0) limit) (get_or quantities row 0) 0

abbrev pub invariant-loop-row : goal.invariant-loop-row
invariant-loop-row l = (l.row ≤ length l.self.prices.now) × (l.sum ≡ sum_to (takes l.self.prices.now l.self.quantities.now l.limit) l.row) × (l.sum ≤ 200000 * l.row)

abbrev pub decreases-loop-row : goal.decreases-loop-row
decreases-loop-row l = length l.self.prices.now - l.row
