-- The curve price between cents: whole cents, and what rounding down leaves of a cent, as a remainder over a divisor.
--
-- In order: the price on a line, at a quantity, and past Q3; what such a price comes to, and how two compare as fractions.
-- Assumes nothing.
use Rattle.std.specs.Prelude.{◌≡◌, ℕ, ◌+◌, ◌-◌, ◌*◌, ◌%◌, ◌≤◌, cond, leb, Some, None}
use Rattle.units.specs.declared.CentsPerMwDay.{CentsPerMwDay}
use Rattle.curve.specs.declared.Curve.{Curve}
use Rattle.curve.specs.declared.exact.ExactPrice.{ExactPrice}
use Rattle.curve.specs.Price.{line, CurvePrice}
use Rattle.std.specs.declared.option.Option.{Option}

-- what a curve says of a quantity, between cents: past Q3 nothing is bought
abbrev pub ExactCurvePrice : Type 0
ExactCurvePrice = Option ExactPrice

-- the line from (qa, pa) to (qb, pb) at k, exactly, is this over its width qb − qa: what `line` divides
abbrev pub line_numerator : ℕ → ℕ → ℕ → ℕ → ℕ → ℕ
line_numerator pa pb qa qb k = pa * (qb - k) + pb * (k - qa)

-- the price on that line: whole cents with a remainder and its divisor, the line's width in tenths
unfoldable pub exact_line : ℕ → ℕ → ℕ → ℕ → ℕ → ExactPrice
exact_line pa pb qa qb k =
    record {
      cents = record { 0 = line pa pb qa qb k };
      remainder = line_numerator pa pb qa qb k % (qb - qa);
      divisor = qb - qa;
    }

-- a price of whole cents: remainder 0 and divisor 1
abbrev pub whole_cents : CentsPerMwDay → ExactPrice
whole_cents p = record { cents = p; remainder = 0; divisor = 1 }

-- the price at k, from 0 to Q3: whole cents on the level stretch, Q1 included; Q2 belongs to the line that ends there
unfoldable pub exact_price : Curve → ℕ → ExactPrice
exact_price c k =
    cond (leb k c.q1) (whole_cents c.p1)
    (cond (leb k c.q2) (exact_line c.p1.0 c.p2.0 c.q1 c.q2 k)
    (exact_line c.p2.0 0 c.q2 c.q3 k))

-- what a curve says of k between cents: the price up to Q3; past Q3 there is none
unfoldable pub exact_curve_price : Curve → ℕ → ExactCurvePrice
exact_curve_price c k = cond (leb k c.q3) (Some (exact_price c k)) None

-- ---- what such a price comes to

-- cents times divisor plus remainder: over the divisor, this is the price in cents
abbrev pub numerator : ExactPrice → ℕ
numerator e = e.cents.0 * e.divisor + e.remainder

-- the first price is at most the second, as fractions
abbrev pub AtMost : ExactPrice → ExactPrice → Type 0
AtMost a b = numerator a * b.divisor ≤ numerator b * a.divisor

-- the first price is the second and n / d of a cent more, as fractions
abbrev pub MoreBy : ExactPrice → ExactPrice → ℕ → ℕ → Type 0
MoreBy a b n d = numerator a * (b.divisor * d) ≡ numerator b * (a.divisor * d) + n * (a.divisor * b.divisor)

-- what a curve says, in whole cents: the cents of its price, or that there is none
abbrev pub cents_said : ExactCurvePrice → CurvePrice
cents_said (Some e) = Some e.cents
cents_said None = None
