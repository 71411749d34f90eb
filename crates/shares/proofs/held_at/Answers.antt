-- `shares::held_at` is what a price level holds: what is held at the price or below, less what is held below it.
-- Assumes nothing.
use mathlib.Core.Path.{◌≡◌}
use Prim.Native.Nat.{ℕ, ◌-◌, ◌≤◌}
use native.Mathlib.Omega.{arith}
use Rattle.auction.specs.Offers.{Offers, supply, supply_below, level_sum}
use Rattle.auction.proofs.Supply.{supply-split}
use Rattle.shares.proofs.held_at.Goals as goal

level-rest : (o : Offers) (p reach below : ℕ) → reach ≡ supply o p → below ≡ supply_below o p
    → (below ≤ reach) × (reach - below ≡ level_sum o p)
level-rest o p reach below e f = (omega (arith, supply-split o p), omega (arith, supply-split o p))

pub overflow_sub-result : goal.overflow_sub-result
overflow_sub-result c = (level-rest _ _ _ _ c.supply_at.ensures.0 c.supply_below.ensures.0).0

pub returns : goal.returns
returns c = (level-rest _ _ _ _ c.supply_at.ensures.0 c.supply_below.ensures.0).1
