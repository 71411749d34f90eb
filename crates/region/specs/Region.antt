-- The region's requirement curve: the one that its parameters select.
--
-- `held` is asked only of values that the refusals have shown to be given.
-- Assumes nothing.
use Rattle.std.specs.Prelude.{◌+◌, cond}
use Rattle.values.specs.Values.{held}
use Rattle.values.specs.declared.head.Parameters.{Parameters}
use Rattle.limits.specs.Parameters.{by_margin}
use Rattle.curve.specs.Points.{curve_of}
use Rattle.curve.specs.Shape.{weights2022, weights2026}
use Rattle.curve.specs.declared.Terms.{Terms}
use Rattle.curve.specs.declared.Curve.{Curve}

-- the terms that parameters with every value given state
abbrev pub terms_of : Parameters → Terms
terms_of p =
    let cost = held p.cost in
    let offset = held p.offset in
    record { cost = record { 0 = cost }; offset = record { 0 = offset }; outage = held p.outage; requirement = held p.requirement }

-- the curve that the year selects: up to 2025 by the weights of 2022, where 100 percent and the margin stand for the
-- requirement; from 2026 on by those of 2026, where 100 percent does. The year is looked at first: the margin of a year that has
-- none is no number.
unfoldable pub region_curve : Parameters → Curve
region_curve p =
    cond (by_margin p.year)
    (curve_of weights2022 (10000 + held p.margin) (terms_of p))
    (curve_of weights2026 10000 (terms_of p))
