-- `region_curve` makes the points by the weights that the year selects.
-- Assumes nothing.
use mathlib.Core.Path.{◌≡◌, sym, ap, ap₂, subst, ◌∙◌}
use mathlib.Core.Bool.{true, false}
use Prim.Native.Nat.{ℕ, ◌+◌, ◌≤◌}
use native.Mathlib.Omega.{arith}
use Rattle.limits.specs.Parameters.{by_margin}
use Rattle.curve.specs.declared.Terms.{Terms}
use Rattle.curve.specs.Points.{curve_of}
use Rattle.curve.specs.inner.Points.{InRange}
use Rattle.curve.specs.Shape.{weights2022, weights2026}
use Rattle.curve.proofs.Shapes.{y2022-usable, y2026-usable}
use Rattle.region.proofs.Regions.{terms-in-range, margin-most, region-early, region-late}
use Rattle.region.proofs.region_curve.Goals as goal
use Rattle.region.proofs.region_curve.Goals.{After-number_held, Else-by_margin}

-- which way the test of the year went
early : (c : After-number_held) → by_margin c.args.p.year ≡ true
early c = sym c.by_margin.ensures ∙ c.if-by_margin.true

late : (c : Else-by_margin) → by_margin c.args.p.year ≡ false
late c = sym c.by_margin.ensures ∙ c.if-by_margin.false

-- the margin of a year that goes by it is 50 percent at most
margin-fits : (c : After-number_held) → c.number_held.result ≤ 5000
margin-fits c = rw c.number_held.ensures (margin-most c.args.p c.requires (early c))

pub overflow_add-number_held : goal.overflow_add-number_held
overflow_add-number_held c = omega (arith, margin-fits (goal.at.overflow_add-number_held c).After-number_held)

pub points-requires : goal.points-requires
points-requires c =
    (y2022-usable _ (margin-fits (goal.at.points-requires c).After-number_held), subst InRange (sym c.terms_of-terms.ensures) (terms-in-range _ c.requires))

pub points-requires-else-by_margin : goal.points-requires-else-by_margin
points-requires-else-by_margin c =
    (y2026-usable, subst InRange (sym c.terms_of-terms.ensures) (terms-in-range _ c.requires))

pub returns-then-by_margin : goal.returns-then-by_margin
returns-then-by_margin c = (
  c.points.ensures.0
      ∙ ap₂ (λ (margin : ℕ) (t : Terms). curve_of weights2022 (10000 + margin) t) c.number_held.ensures
      c.terms_of-terms.ensures
      ∙ sym (region-early _ (early (goal.at.returns-then-by_margin c).After-number_held)),
  c.points.ensures.1,
)

pub returns-else-by_margin : goal.returns-else-by_margin
returns-else-by_margin c = (
  c.points-else-by_margin.ensures.0 ∙ ap (curve_of weights2026 10000) c.terms_of-terms.ensures
      ∙ sym (region-late _ (late (goal.at.returns-else-by_margin c).Else-by_margin)),
  c.points-else-by_margin.ensures.1,
)
