-- What the exported functions return of a curve: plain structs of numbers, by the rules of Structs.
--
-- In order: the three points; the price at a quantity.
-- Assumes nothing.
use Rattle.std.specs.Prelude.{ℕ, Err, Some, None, Ok}
use Rattle.values.specs.declared.head.Parameters.{Parameters}
use Rattle.limits.specs.Given.{parameters_fault}
use Rattle.curve.specs.Exact.{exact_curve_price, ExactCurvePrice}
use Rattle.curve.specs.declared.Curve.{Curve}
use Rattle.curve.specs.declared.exact.ExactPrice.{ExactPrice}
use Rattle.region.specs.Region.{region_curve}
use Rattle.plain.specs.Structs.{no_value}
use Rattle.plain.specs.declared.structs.OzpCurve.{OzpCurve}
use Rattle.plain.specs.declared.structs.OzpPrice.{OzpPrice}
use Rattle.values.specs.Refusals.{Verdict, number_of, place_of}

-- the three points, the last of which stands at price 0
abbrev pub points_of : Curve → OzpCurve
points_of c =
    record {
      kind = 1;
      p1 = c.p1.0;
      p2 = c.p2.0;
      p3 = 0;
      q1 = c.q1;
      q2 = c.q2;
      q3 = c.q3;
      number = no_value;
      place = no_value;
    }

abbrev pub points_refused : ℕ → ℕ → OzpCurve
points_refused number place =
    record {
      kind = 3;
      p1 = no_value;
      p2 = no_value;
      p3 = no_value;
      q1 = no_value;
      q2 = no_value;
      q3 = no_value;
      number = number;
      place = place;
    }

abbrev pub points_by : Verdict → OzpCurve → OzpCurve
points_by (Ok u) points = points
points_by (Err refusal) points = points_refused (number_of refusal) (place_of refusal)

-- the points of the curve that parameters make, or the refusal of the parameters
unfoldable pub exported_curve : Parameters → OzpCurve
exported_curve p = points_by (parameters_fault p) (points_of (region_curve p))

-- ---- its price at a quantity

-- a price: whole cents with a remainder and its divisor
abbrev pub price_given : ExactPrice → OzpPrice
price_given e =
    record {
      kind = 1;
      cents = e.cents.0;
      remainder = e.remainder;
      divisor = e.divisor;
      number = no_value;
      place = no_value;
    }

-- an answer of another kind has none of the three
abbrev pub without_price : ℕ → ℕ → ℕ → OzpPrice
without_price kind number place =
    record { kind = kind; cents = no_value; remainder = no_value; divisor = no_value; number = number; place = place }

-- what a curve says of a quantity, or the refusal of its parameters
abbrev pub plotted_price : ExactCurvePrice → OzpPrice
plotted_price (Some e) = price_given e
plotted_price None = without_price 2 no_value no_value

abbrev pub price_refused : ℕ → ℕ → OzpPrice
price_refused number place = without_price 3 number place

abbrev pub price_by : Verdict → OzpPrice → OzpPrice
price_by (Ok u) price = price
price_by (Err refusal) price = price_refused (number_of refusal) (place_of refusal)

-- the price at k on the curve that parameters make, that there is none past Q3, or the refusal of the parameters
unfoldable pub exported_price : Parameters → ℕ → OzpPrice
exported_price p k = price_by (parameters_fault p) (plotted_price (exact_curve_price (region_curve p) k))
