-- `curve::first_price` meets its contract: the test picks the greater of the two amounts.
-- Assumes nothing.
use mathlib.Core.Path.{◌≡◌, ◌∙◌}
use Prim.Native.Nat.{ℕ, ◌*◌, ◌≤◌, ◌<◌}
use native.Mathlib.Nat.{max-eq_left, max-eq_right, le_of_lt}
use Rattle.units.specs.Conversion.{daily_cents}
use Rattle.curve.specs.declared.Terms.{Terms}
use Rattle.curve.specs.declared.Weights.{Weights}
use Rattle.curve.specs.Points.{net_cost, first_price}
use Rattle.curve.proofs.first_price.Goals as goal

-- P1 where the weighted net cost is the greater, and where it is not
price-net : (w : Weights) (t : Terms) (net : ℕ) → net ≡ net_cost t → t.cost.0 * 4 < net * w.first
    → daily_cents (net * w.first) t.outage ≡ first_price w t
unfolding first_price
price-net w t net e h = rw (← e, max-eq_right (le_of_lt h))

price-gross : (w : Weights) (t : Terms) (net : ℕ) → net ≡ net_cost t → net * w.first ≤ t.cost.0 * 4
    → daily_cents (t.cost.0 * 4) t.outage ≡ first_price w t
unfolding first_price
price-gross w t net e h = rw (← e, max-eq_left h)

pub returns-then-t-net : goal.returns-then-t-net
returns-then-t-net c =
    c.daily.ensures.0
    ∙ price-net _ _ _ c.net_cost-net.ensures c.if-t-net.true

pub returns-else-t-net : goal.returns-else-t-net
returns-else-t-net c =
    c.daily-else-t-net.ensures.0
    ∙ price-gross _ _ _ c.net_cost-net.ensures c.if-t-net.false
