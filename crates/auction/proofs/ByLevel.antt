-- Amounts that divide a total by price levels, however each level is divided.
--
-- In order: what such amounts are; together they are the total; a whole level's offer has all, an empty level's nothing.
-- Assumes nothing.
use mathlib.Core.Path.{◌≡◌, refl, sym, ◌∙◌}
use mathlib.Core.Bool.{true}
use Prim.Native.Nat.{ℕ, zero, suc, ◌-◌, ◌≤◌, ◌<◌, min}
use native.Mathlib.Nat.{le_antisymm, le_of_eq}
use native.Mathlib.Omega.{arith}
use lib.Dec.{eqb}
use borrow.Author.Tests.{eq-eqb}
use Rattle.laws.specs.Sum.{sum_to, sum_where}
use Rattle.laws.proofs.Where.{sum_where-place, sum_where-tight}
use Rattle.auction.specs.Offers.{Offers, supply, supply_below, level_sum}
use Rattle.auction.specs.Shares.{level_amount}
use Rattle.auction.specs.Surplus.{total}
use Rattle.auction.proofs.Supply.{supply-split, supply-top, supply_below-zero, supply_below-suc}

-- the amounts y divide the total x by levels
pub record ByLevel (o : Offers) (x : ℕ) (y : ℕ → ℕ) : Type 0 where
  -- no offer has more than its quantity
  pub within : (i : ℕ) → i < o.count → y i ≤ o.quantity i
  -- what the offers of a level have adds up to what the level receives
  pub level : (p : ℕ) → sum_where (λ i. eqb (o.price i) p) y o.count ≡ level_amount o x p

-- offers with other quantities, so that the laws of supply speak of amounts
abbrev offering : Offers → (ℕ → ℕ) → Offers
offering o y =
    record { count = o.count; price = o.price; quantity = y; stamp = o.stamp; resource = o.resource; step = o.step }

module _ (o : Offers) (x : ℕ) (y : ℕ → ℕ) (b : ByLevel o x y) where
  level-sum : (p : ℕ) → level_sum (offering o y) p ≡ min (x - supply_below o p) (level_sum o p)
  unfolding level_sum level_amount
  level-sum = b.level

  -- up to a price they are what is offered there, but no more than x
  up_to-price : (p : ℕ) → supply (offering o y) p ≡ min x (supply o p)
  up_to-price zero =
      let a = supply-split (offering o y) 0 in
      let c = supply_below-zero (offering o y) in
      omega (arith, supply-split o 0, supply_below-zero o, level-sum 0)
  up_to-price (suc p) =
      let a = supply-split (offering o y) (suc p) in
      let c = supply_below-suc (offering o y) p in
      omega (arith, supply-split o (suc p), supply_below-suc o p, level-sum (suc p), up_to-price p)

  -- together they are x, where so much is offered
  pub by_level-total : x ≤ sum_to o.quantity o.count → total o y ≡ x
  unfolding total
  by_level-total h =
      omega (arith, supply-top (offering o y), supply-top o, up_to-price (sum_to o.price o.count))

  here : (i : ℕ) → eqb (o.price i) (o.price i) ≡ true
  here i = eq-eqb (o.price i) (o.price i) refl

  -- in a level that receives nothing, an offer has nothing
  pub by_level-nothing : (i : ℕ) → i < o.count → level_amount o x (o.price i) ≡ 0 → y i ≡ 0
  by_level-nothing i l e =
      omega (arith, b.level (o.price i), sum_where-place (λ j. eqb (o.price j) (o.price i)) y o.count i l (here i))

  -- in a level that is whole, an offer has all its quantity
  pub by_level-whole : (i : ℕ) → i < o.count
      → level_amount o x (o.price i) ≡ level_sum o (o.price i) → y i ≡ o.quantity i
  unfolding level_sum
  by_level-whole i l e =
      le_antisymm (b.within i l)
      (sum_where-tight _ y o.quantity o.count b.within (le_of_eq (sym e ∙ sym (b.level (o.price i)))) i l (here i))
