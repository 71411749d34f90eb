-- What is known of the quantity at which a price is met, against any demand, and of the level at that price.
-- Assumes nothing.
use Rattle.std.specs.Prelude.{ℕ, suc, ◌-◌, ◌≤◌, ◌<◌, min, ◌≡◌, Bool, true, cond, eqb, ltb}
use Rattle.auction.specs.Offers.{Demand}
use Rattle.levels.specs.declared.level.Level.{Level}

-- the largest quantity from `below` to `top` at which the demand asks the price or more, or `below`, lies from `low` to `high`
pub record Reaches (d : Demand) (price below top low high : ℕ) : Type 0 where
  -- the four numbers are in order
  pub start : below ≤ low
  pub ordered : low ≤ high
  pub end : high ≤ top
  -- at `low`, if it is past `below`, the demand asks the price or more
  pub met : below < low → price ≤ d.price low
  -- one tenth past `high`, if it is before `top`, it asks less
  pub past : high < top → d.price (suc high) < price

-- a level at the price p with the total that the demand reaches there, where `below` is offered strictly below p, and `up_to` at
-- p or below
pub record LevelBetween (d : Demand) (p below up_to : ℕ) (l : Level) : Type 0 where
  pub total : Reaches d p below (min up_to d.last) l.total l.total
  pub price : l.price ≡ p
  pub amount : l.amount ≡ min (l.total - below) (up_to - below)
  pub sum : l.sum ≡ up_to - below
  pub reach : l.reach ≡ up_to

-- a total stops at any level of the highest price, and at one that has more than the total takes of it
unfoldable pub stops_there : Level → Bool
stops_there l = cond (eqb l.price 1000000) true (ltb l.total l.reach)
