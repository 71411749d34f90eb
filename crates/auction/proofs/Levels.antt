-- What a price level receives of a total x: all of it, nothing, or what is left.
--
-- In order: by what is offered at the price and below it; by the next price; by the price at the margin.
-- Assumes nothing.
use mathlib.Core.Path.{◌≡◌}
use mathlib.Core.Option.{none}
use Prim.Native.Nat.{ℕ, ◌-◌, ◌≤◌, ◌<◌, zero-le}
use native.Mathlib.Omega.{arith}
use Rattle.auction.specs.Offers.{Offers, Demand, supply, supply_below, level_sum}
use Rattle.auction.specs.Clearing.{next_price}
use Rattle.auction.specs.Shares.{level_amount}
use Rattle.auction.proofs.Supply.{supply-split, supply-supply_below}
use Rattle.auction.proofs.NextPrice.{IsNext, next-none, next_under}
use Rattle.auction.proofs.Price.{Margin}

-- a level that fits into x with all below it is whole
pub level-whole : (o : Offers) (x p : ℕ) → supply o p ≤ x → level_amount o x p ≡ level_sum o p
unfolding level_amount
level-whole o x p h = omega (arith, supply-split o p)

-- a level before which x is filled receives nothing
pub level-empty : (o : Offers) (x p : ℕ) → x ≤ supply_below o p → level_amount o x p ≡ 0
unfolding level_amount
level-empty o x p h = omega arith

-- a level in which x is filled receives what is left of x
pub level-part : (o : Offers) (x p : ℕ) → x ≤ supply o p → level_amount o x p ≡ x - supply_below o p
unfolding level_amount
level-part o x p h = omega (arith, supply-split o p)

-- where nothing clears, no level receives anything
pub level-nothing : (o : Offers) (p : ℕ) → level_amount o 0 p ≡ 0
level-nothing o p = level-empty o 0 p zero-le

-- a level under the next price is whole
pub level-under-next : (o : Offers) (x m p : ℕ) → IsNext o x m → p < m → level_amount o x p ≡ level_sum o p
level-under-next o x m p r l = level-whole o x p (next_under o x m p r l)

-- a level over the next price receives nothing
pub level-over-next : (o : Offers) (x m p : ℕ) → IsNext o x m → m < p → level_amount o x p ≡ 0
level-over-next o x m p r l = level-empty o x p (omega (arith, r.over, supply-supply_below o m p l))

-- the level at the next price receives what is left of x
pub level-at-next : (o : Offers) (x m : ℕ) → IsNext o x m → level_amount o x m ≡ x - supply_below o m
level-at-next o x m r = level-part o x m (omega (arith, r.over))

-- where there is no next price every level is whole
pub level-no-next : (o : Offers) (x p : ℕ) → next_price o x ≡ none → level_amount o x p ≡ level_sum o p
level-no-next o x p e = level-whole o x p (next-none o x e p)

-- a level under the price at the margin is whole
pub level-under-price : (d : Demand) (o : Offers) (x p q : ℕ) → Margin d o x p → q < p → level_amount o x q ≡ level_sum o q
level-under-price d o x p q s l = level-whole o x q (s.under q l)

-- a level over the price at the margin receives nothing
pub level-over-price : (d : Demand) (o : Offers) (x p q : ℕ) → Margin d o x p → p < q → level_amount o x q ≡ 0
level-over-price d o x p q s l = level-empty o x q (s.over q l)
