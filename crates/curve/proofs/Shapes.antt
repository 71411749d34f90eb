-- The points of a curve made by usable weights from terms in range go right and never up.
--
-- In order: two quantities that stand far enough apart; the highest quantity; the highest net cost; the two prices; the
-- curve; the weights of 2026, and those of 2022.
-- Assumes nothing.
use mathlib.Core.Path.{◌≡◌, sym, subst}
use Prim.Native.Nat.{ℕ, ◌+◌, ◌-◌, ◌*◌, max, ◌≤◌, ◌<◌}
use native.Mathlib.Nat.{mul-add, mul-le-mul, mul-le-mul_left, mul-le-mul_right, le_trans, le-max_right, max-le}
use native.Mathlib.Omega.{arith}
use Rattle.laws.specs.Nearest.{nearest}
use Rattle.laws.proofs.Nearests.{nearest-grows, nearest-most}
use Rattle.units.proofs.Conversions.{daily-mono, daily-most}
use Rattle.curve.specs.declared.Curve.{Curve}
use Rattle.curve.specs.declared.Terms.{Terms}
use Rattle.curve.specs.declared.Weights.{Weights}
use Rattle.curve.specs.Points.{net_cost, first_price, second_price, quantity_at, curve_of}
use Rattle.curve.specs.inner.Points.{InRange}
use Rattle.curve.specs.Shape.{Shaped, weights2022, weights2026}
use Rattle.curve.specs.inner.Shape.{Usable}

-- two parts of a requirement of 1,000 tenths or more, apart by a thousandth of the whole or more, are different tenths
pub quantity-grows : (r a b whole : ℕ) → 0 < whole → 1000 ≤ r → whole + 1000 * a ≤ 1000 * b
    → nearest (r * a) whole < nearest (r * b) whole
quantity-grows r a b whole p l h =
    let gap : b ≡ a + (b - a) = omega arith in
    nearest-grows (r * a) (r * b) whole p
    (rw gap (omega (arith, mul-add r a (b - a), mul-le-mul_right (b - a) l)))

-- no part up to 110 percent is over 220,000 megawatts
pub quantity-most : (r part whole : ℕ) → 0 < whole → r ≤ 2000000 → 10 * part ≤ 11 * whole
    → nearest (r * part) whole ≤ 2200000
quantity-most r part whole p l h =
    nearest-most 2200000 (r * part) whole p (omega (arith, mul-le-mul_right part l))

-- the net cost times a weight up to 1.75 is at most 1,750,000 dollars
pub net-most : (t : Terms) (quarters : ℕ) → InRange t → quarters ≤ 7 → net_cost t * quarters ≤ 7000000
net-most t quarters h l = mul-le-mul {n₂ = 1000000} {m₂ = 7} (omega arith) l

module _ (w : Weights) (whole : ℕ) (t : Terms) (u : Usable w whole) (h : InRange t) where
  -- P2 is at most P1
  prices-fall : second_price w t ≤ first_price w t
  unfolding first_price second_price
  prices-fall =
      daily-mono (net_cost t * w.second) (max (t.cost.0 * 4) (net_cost t * w.first)) t.outage (omega arith)
      (le_trans (mul-le-mul_left (net_cost t) u.second-most) (le-max_right _ _))

  -- P1 is at most 958,904
  price-most : first_price w t ≤ 958904
  unfolding first_price
  price-most =
      daily-most (max (t.cost.0 * 4) (net_cost t * w.first)) t.outage
      (max-le (omega arith) (net-most t w.first h u.first-most)) h.outage-most

  -- usable weights make of terms in range a curve whose points go right and never up
  pub curve-shaped : Shaped (curve_of w whole t)
  unfolding curve_of quantity_at
  curve-shaped =
      record {
        prices-fall = prices-fall;
        price-most = price-most;
        first-rises = quantity-grows _ _ _ whole (omega arith) h.requirement-least (omega arith);
        second-rises = quantity-grows _ _ _ whole (omega arith) h.requirement-least (omega arith);
        quantity-most = quantity-most _ _ whole (omega arith) h.requirement-most (omega arith);
      }

  -- points that are each what the tariff says are the curve, and so go right and never up
  pub curve-made : (c : Curve) → c.p1.0 ≡ first_price w t → c.p2.0 ≡ second_price w t
      → c.q1 ≡ quantity_at t (whole - w.under) whole → c.q2 ≡ quantity_at t (whole + w.over) whole
      → c.q3 ≡ quantity_at t (whole + w.last) whole → (c ≡ curve_of w whole t) × Shaped c
  unfolding curve_of
  curve-made c e₁ e₂ f₁ f₂ f₃ =
      let same : c ≡ curve_of w whole t =
      λ i. record { p1 = record { 0 = e₁ i }; p2 = record { 0 = e₂ i }; q1 = f₁ i; q2 = f₂ i; q3 = f₃ i } in
      (same, subst Shaped (sym same) curve-shaped)

-- the weights of 2026 are usable
pub y2026-usable : Usable weights2026 10000
y2026-usable = omega arith

-- and so are those of 2022, with any reserve margin up to 50 percent
pub y2022-usable : (margin : ℕ) → margin ≤ 5000 → Usable weights2022 (10000 + margin)
y2022-usable margin l = omega arith
