-- What every curve is, and the weights of the two editions.
-- Assumes nothing.
use Rattle.std.specs.Prelude.{◌≤◌, ◌<◌}
use Rattle.curve.specs.declared.Weights.{Weights}
use Rattle.curve.specs.declared.Curve.{Curve}

-- a curve whose points go right and never up
pub record Shaped (c : Curve) : Type 0 where
  -- P2 is at most P1
  pub prices-fall : c.p2.0 ≤ c.p1.0
  -- no price is over 9,589.04 dollars per MW-day
  pub price-most : c.p1.0 ≤ 958904
  -- Q1 is before Q2
  pub first-rises : c.q1 < c.q2
  -- and Q2 before Q3
  pub second-rises : c.q2 < c.q3
  -- no quantity is over 220,000 megawatts
  pub quantity-most : c.q3 ≤ 2200000

-- delivery years 2022 to 2025: 1.5 and 0.75 times the net cost; 1.2 percent under `whole`, 1.9 and 7.8 percent over it
abbrev pub weights2022 : Weights
weights2022 = record { first = 6; second = 3; under = 120; over = 190; last = 780 }

-- delivery years from 2026 on: 1.75 and 0.75 times the net cost; 99, 101.5 and 104.5 percent
abbrev pub weights2026 : Weights
weights2026 = record { first = 7; second = 3; under = 100; over = 150; last = 450 }
