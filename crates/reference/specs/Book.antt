-- The reference book: its parameters, its curve, and what a few offers clear on it.
--
-- `curve_in`, `example_price` and `outcome` open with all that they are made of, so that a case of them is computed.
-- Assumes nothing.
use Rattle.std.specs.Prelude.{ℕ, zero, suc, List, [], ◌∷◌, length, get_or}
use Rattle.std.proofs.Math.Option.{Option}
use Rattle.laws.specs.Sum.{sum_to, sum_where, count_where}
use Rattle.laws.specs.Nearest.{nearest}
use Rattle.laws.specs.Largest.{largest, least_where}
use Rattle.units.specs.Conversion.{daily_cents}
use Rattle.auction.specs.Offers.{Offers, supply, supply_below, level_sum}
use Rattle.auction.specs.Clearing.{cleared_total, next_price, clearing_price}
use Rattle.auction.specs.Shares.{level_amount, weighted, share_down, remainder, spare_tenths, ahead, rank, cleared}
use Rattle.curve.specs.declared.Curve.{Curve}
use Rattle.curve.specs.Points.{first_price, second_price, quantity_at, curve_of}
use Rattle.curve.specs.Price.{line, tenth_price, curve_price, demand_of, CurvePrice}
use Rattle.values.specs.declared.Value.{Value}
use Rattle.values.specs.declared.Value.TheVariants.{Given, Missing}
use Rattle.limits.specs.Parameters.{by_margin}
use Rattle.region.specs.Region.{region_curve}

-- the curve that a delivery year selects, by a cost of new entry, a revenue offset, an outage rate, a requirement and a reserve
-- margin or none
unfoldable pub curve_in : ℕ → ℕ → ℕ → ℕ → ℕ → Value → Curve
unfolding nearest daily_cents first_price second_price quantity_at curve_of by_margin region_curve
curve_in year c e f r margin =
    region_curve
    (record { year = year; cost = Given c; offset = Given e; outage = Given f; requirement = Given r; margin = margin })

-- that of 2026, which has no margin
abbrev pub curve_by : ℕ → ℕ → ℕ → ℕ → Curve
curve_by c e f r = curve_in 2026 c e f r Missing

-- P1 and P2, in cents, and Q1, Q2 and Q3, in tenths
abbrev pub prices : Curve → ℕ × ℕ
prices c = (c.p1.0, c.p2.0)

abbrev pub quantities : Curve → ℕ × ℕ × ℕ
quantities c = (c.q1, c.q2, c.q3)

-- the reference parameters: C 146,000, E 73,000, F 2,000, R 10,000
abbrev pub reference : Curve
reference = curve_by 146000 73000 2000 10000

-- and the same in 2025, with a margin
abbrev pub reference2025 : ℕ → Curve
reference2025 margin = curve_in 2025 146000 73000 2000 10000 (Given margin)

-- what the reference curve says of a quantity
unfoldable pub example_price : ℕ → CurvePrice
unfolding curve_in line tenth_price curve_price
example_price k = curve_price reference k

-- a quantity at a price
infix 70 ◌at◌
abbrev pub ◌at◌ : ℕ → ℕ → ℕ × ℕ
quantity at price = (quantity, price)

-- offers of these quantities and prices, stamps and resource numbers ascending, each in one step
abbrev pub example_offers : List (ℕ × ℕ) → Offers
example_offers rows =
    record {
      count = length rows;
      price = λ i. (get_or rows i (0 at 0)).1;
      quantity = λ i. (get_or rows i (0 at 0)).0;
      stamp = λ i. i;
      resource = λ i. suc i;
      step = λ i. 1;
    }

-- the first n values, in a list
abbrev pub by_row : (ℕ → ℕ) → ℕ → List ℕ
by_row f zero = []
by_row f (suc n) = f 0 ∷ by_row (λ i. f (suc i)) n

-- the cleared total, the price or none, and what each row clears, on the reference curve
unfoldable pub outcome : List (ℕ × ℕ) → ℕ × Option ℕ × List ℕ
unfolding sum_to sum_where count_where largest least_where curve_in line tenth_price supply supply_below level_sum
    cleared_total next_price clearing_price level_amount weighted share_down remainder spare_tenths ahead rank cleared
outcome rows =
    let x = cleared_total (demand_of reference) (example_offers rows) in
    (x, clearing_price (demand_of reference) (example_offers rows), by_row (cleared (example_offers rows) x) (length rows))
