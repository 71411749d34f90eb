-- The curve price at a quantity.
-- Assumes nothing.
use Rattle.std.specs.Prelude.{ℕ, ◌+◌, ◌-◌, ◌*◌, ◌/◌, cond, leb, Some, None}
use Rattle.auction.specs.Offers.{Demand}
use Rattle.curve.specs.declared.Curve.{Curve}
use Rattle.std.specs.declared.option.Option.{Option}
use Rattle.units.specs.declared.CentsPerMwDay.{CentsPerMwDay}

-- what a curve says of a quantity, in whole cents: past Q3 nothing is bought
abbrev pub CurvePrice : Type 0
CurvePrice = Option CentsPerMwDay

-- the straight line from (qa, pa) to (qb, pb) at k, rounded down to a cent
unfoldable pub line : ℕ → ℕ → ℕ → ℕ → ℕ → ℕ
line pa pb qa qb k = (pa * (qb - k) + pb * (k - qa)) / (qb - qa)

-- the curve price at k, from 0 to Q3: P1 up to Q1; on the line between neighbouring points after that; P3 is 0
unfoldable pub tenth_price : Curve → ℕ → ℕ
tenth_price c k =
    cond (leb k c.q1) c.p1.0
    (cond (leb k c.q2) (line c.p1.0 c.p2.0 c.q1 c.q2 k)
    (line c.p2.0 0 c.q2 c.q3 k))

-- past Q3 nothing is bought, and a curve asked there says that it has no price
unfoldable pub curve_price : Curve → ℕ → CurvePrice
curve_price c k = cond (leb k c.q3) (Some (record { 0 = tenth_price c k })) None

-- the curve as the demand side of an auction
abbrev pub demand_of : Curve → Demand
demand_of c = record { price = tenth_price c; last = c.q3 }
