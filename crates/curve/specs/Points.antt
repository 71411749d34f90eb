-- The three points of the requirement curve, as a function of the weights of an edition of the tariff.
--
-- Costs are whole dollars per MW-year, prices cents per MW-day, quantities tenths of a megawatt, rates hundredths of a
-- percent. `whole` is what stands for the requirement itself, in hundredths of a percent: 100 percent, or 100 percent and the
-- reserve margin.
-- Assumes nothing.
use Rattle.std.specs.Prelude.{ℕ, ◌+◌, ◌-◌, ◌*◌, max}
use Rattle.laws.specs.Nearest.{nearest}
use Rattle.units.specs.Conversion.{daily_cents}
use Rattle.curve.specs.declared.Terms.{Terms}
use Rattle.curve.specs.declared.Weights.{Weights}
use Rattle.curve.specs.declared.Curve.{Curve}

-- the net cost of new entry, C minus E
abbrev pub net_cost : Terms → ℕ
net_cost t = t.cost.0 - t.offset.0

-- P1: the greater of C and the first weight (in quarters) times the net cost, converted
unfoldable pub first_price : Weights → Terms → ℕ
first_price w t = daily_cents (max (t.cost.0 * 4) (net_cost t * w.first)) t.outage

-- P2: the second weight (in quarters) times the net cost, converted the same way
unfoldable pub second_price : Weights → Terms → ℕ
second_price w t = daily_cents (net_cost t * w.second) t.outage

-- a quantity: the requirement times a percentage of `whole`; nearest
unfoldable pub quantity_at : Terms → ℕ → ℕ → ℕ
quantity_at t weight whole = nearest (t.requirement * weight) whole

-- the points (Q1, P1), (Q2, P2) and (Q3, 0)
unfoldable pub curve_of : Weights → ℕ → Terms → Curve
curve_of w whole t =
    record {
      p1 = record { 0 = first_price w t };
      p2 = record { 0 = second_price w t };
      q1 = quantity_at t (whole - w.under) whole;
      q2 = quantity_at t (whole + w.over) whole;
      q3 = quantity_at t (whole + w.last) whole;
    }
