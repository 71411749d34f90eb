-- What the search knows of the level at which a total stops.
-- Assumes nothing.
use Rattle.std.specs.Prelude.{ℕ, ◌≡◌}
use Rattle.auction.specs.Offers.{Offers, supply, level_sum}
use Rattle.auction.specs.Shares.{level_amount}
use Rattle.levels.specs.declared.level.Level.{Level}
use Rattle.levels.specs.Stop.{stop_level}

-- what is known of the level at which a total x stops
pub record StopsAt (o : Offers) (x : ℕ) (l : Level) : Type 0 where
  -- the total is x
  pub total : l.total ≡ x
  -- the level's price is the highest below which no more than x is offered
  pub price : l.price ≡ stop_level o x
  -- what the level receives of x
  pub amount : l.amount ≡ level_amount o x l.price
  -- what is offered at the level
  pub sum : l.sum ≡ level_sum o l.price
  -- what is offered at the level or below
  pub reach : l.reach ≡ supply o l.price
