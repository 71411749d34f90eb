-- The curve of parameters that are given and in range: its terms are in range, and it never rises.
--
-- In order: the curve by the test of the year; the terms; that it goes right and never up; the curve by the year itself; that
-- its price never rises.
-- Assumes nothing.
use mathlib.Core.Path.{◌≡◌, sym, subst}
use mathlib.Core.Bool.{true, false}
use Prim.Native.Nat.{◌+◌, ◌≤◌}
use Rattle.laws.proofs.Cases.{by-test, cond-true, cond-false}
use Rattle.auction.specs.Offers.{Falling}
use Rattle.values.specs.Values.{held}
use Rattle.values.specs.declared.head.Parameters.{Parameters}
use Rattle.limits.specs.Parameters.{by_margin}
use Rattle.limits.specs.Ranges.{Ranged}
use Rattle.limits.proofs.Passing.{margin-early, margin-until, margin-late}
use Rattle.curve.specs.Points.{curve_of}
use Rattle.curve.specs.inner.Points.{InRange}
use Rattle.curve.specs.Shape.{Shaped, weights2022, weights2026}
use Rattle.curve.specs.Price.{demand_of}
use Rattle.curve.proofs.Shapes.{curve-shaped, y2022-usable, y2026-usable}
use Rattle.curve.proofs.Prices.{curve-falls}
use Rattle.region.specs.Region.{terms_of, region_curve}

-- which curve the year selects
module _ (p : Parameters) where
  pub region-early : by_margin p.year ≡ true → region_curve p ≡ curve_of weights2022 (10000 + held p.margin) (terms_of p)
  unfolding region_curve
  region-early early = cond-true _ _ _ early

  pub region-late : by_margin p.year ≡ false → region_curve p ≡ curve_of weights2026 10000 (terms_of p)
  unfolding region_curve
  region-late late = cond-false _ _ _ late

module _ (p : Parameters) (r : Ranged p) where
  pub terms-in-range : InRange (terms_of p)
  terms-in-range =
      record {
        cost-least = r.cost-from;
        cost-most = r.cost-to;
        offset-most = r.offset-to;
        outage-most = r.outage-to;
        requirement-least = r.requirement-from;
        requirement-most = r.requirement-to;
      }

  -- in a year that goes by the margin it is 50 percent at most
  pub margin-most : by_margin p.year ≡ true → held p.margin ≤ 5000
  margin-most early = r.margin-to (margin-until early)

  pub region-shaped : Shaped (region_curve p)
  region-shaped =
      by-test (by_margin p.year)
      (λ early. subst Shaped (sym (region-early p early))
      (curve-shaped weights2022 (10000 + held p.margin) (terms_of p) (y2022-usable _ (margin-most early)) terms-in-range))
      (λ late. subst Shaped (sym (region-late p late)) (curve-shaped weights2026 10000 (terms_of p) y2026-usable terms-in-range))

  -- THE CURVE OF 2022 TO 2025. Up to 2025 the weights of 2022 make it, with 100 percent and the margin for the requirement.
  pub region-2022 : p.year ≤ 2025 → region_curve p ≡ curve_of weights2022 (10000 + held p.margin) (terms_of p)
  region-2022 early = region-early p (margin-early r.year-from early)

  -- From 2026 on those of 2026 do, with 100 percent for it.
  pub region-2026 : 2026 ≤ p.year → region_curve p ≡ curve_of weights2026 10000 (terms_of p)
  region-2026 late = region-late p (margin-late late)

  pub region-falls : Falling (demand_of (region_curve p))
  region-falls = curve-falls (region_curve p) region-shaped
