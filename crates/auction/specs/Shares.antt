-- What each offer clears of a total x: its price level's amount, its share of it, and the order of the spare tenths.
-- Assumes nothing.
use Rattle.std.specs.Prelude.{ℕ, ◌+◌, ◌-◌, ◌*◌, ◌/◌, ◌%◌, min, Bool, cond, ◌&&◌, ltb, eqb}
use Rattle.laws.specs.Sum.{sum_where, count_where}
use Rattle.laws.specs.Orders.{by_key, then_by, highest_by}
use Rattle.auction.specs.Offers.{Offers, supply_below, level_sum}

-- a price level receives x minus everything offered strictly below it, not less than 0 nor more than the level's sum
unfoldable pub level_amount : Offers → ℕ → ℕ → ℕ
level_amount o x p = min (x - supply_below o p) (level_sum o p)

-- row i's quantity times its level's amount: over the level's sum, its exact part
unfoldable pub weighted : Offers → ℕ → ℕ → ℕ
weighted o x i = o.quantity i * level_amount o x (o.price i)

-- the exact part rounded down
unfoldable pub share_down : Offers → ℕ → ℕ → ℕ
share_down o x i = weighted o x i / level_sum o (o.price i)

-- what rounding down leaves
unfoldable pub remainder : Offers → ℕ → ℕ → ℕ
remainder o x i = weighted o x i % level_sum o (o.price i)

-- the spare tenths of a level: what the shares rounded down leave of its amount
unfoldable pub spare_tenths : Offers → ℕ → ℕ → ℕ
spare_tenths o x p = level_amount o x p - sum_where (λ i. eqb (o.price i) p) (share_down o x) o.count

-- the order of spare tenths: the larger remainder, then the earlier stamp, then the lower resource, then the lower step
unfoldable pub ahead : Offers → ℕ → ℕ → ℕ → Bool
ahead o x = highest_by (remainder o x) (then_by o.stamp (then_by o.resource (by_key o.step)))

-- how many of row i's level stand before it
unfoldable pub rank : Offers → ℕ → ℕ → ℕ
rank o x i = count_where (λ j. eqb (o.price j) (o.price i) && ahead o x j i) o.count

-- the spare tenths go one each to the first in the order
unfoldable pub cleared : Offers → ℕ → ℕ → ℕ
cleared o x i = share_down o x i + cond (ltb (rank o x i) (spare_tenths o x (o.price i))) 1 0
