-- Prices between which a total stops, against any demand.
-- Assumes nothing.
use Rattle.std.specs.Prelude.{◌≡◌, ℕ, ◌-◌, ◌<◌, ◌≤◌, List, slice_index}
use Rattle.auction.specs.Offers.{Offers, Demand, supply, supply_below}
use Rattle.market.specs.declared.bracket.PriceBracket.{PriceBracket}

-- the total is no less than what is offered strictly below the bracket
pub record Under (d : Demand) (o : Offers) (b : PriceBracket) : Type 0 where
  -- neither end is over the highest price
  pub low : b.from ≤ 1000000
  pub high : b.cap ≤ 1000000
  -- so much is offered strictly below the lower end
  pub below : b.below ≡ supply_below o b.from
  -- the demand reaches so far
  pub within : b.below ≤ d.last
  -- and the offers can supply so much at its price there
  pub supplied : b.below ≤ supply o (d.price b.below)

-- a bracket inside another
pub record Narrower (old new : PriceBracket) : Type 0 where
  -- its lower end is no lower
  pub from : old.from ≤ new.from
  -- its ends are in order
  pub ordered : new.from ≤ new.cap
  -- and closer together
  pub less : new.cap - new.from < old.cap - old.from

-- of n prices none lies from one price up to, and without, another
pub record NoneBefore (prices : List ℕ) (n from to : ℕ) : Type 0 where
  -- the other is no lower, and not over the highest price
  pub low : from ≤ to
  pub high : to ≤ 1000000
  -- a row's price that is no lower than the one is no lower than the other
  pub none : (i : ℕ) → i < n → from ≤ slice_index prices i → to ≤ slice_index prices i

-- a bracket drawn in to the n prices inside it
pub record DrawnIn (prices : List ℕ) (n : ℕ) (old new : PriceBracket) : Type 0 where
  -- none of them lies between the old lower end and the new one
  pub none : NoneBefore prices n old.from new.from
  -- so no more is offered below it
  pub below : new.below ≡ old.below
  -- its upper end is no higher
  pub less : new.cap ≤ old.cap
