-- What the workings of a share ask of the rows, and what a level receives.
-- Assumes nothing.
use Rattle.std.specs.Prelude.{ℕ, ◌<◌, ◌≡◌, List, get_or}
use Rattle.auction.specs.Offers.{Offers, level_sum}
use Rattle.auction.specs.Shares.{level_amount}
use Rattle.reasons.specs.declared.share.Received.{Received}

-- each of n rows offers something
abbrev pub Positive : List ℕ → ℕ → Type 0
Positive quantities n = (i : ℕ) → i < n → 0 < get_or quantities i 0

-- what the level at a price receives of x, and what is offered at it
pub record LevelAt (o : Offers) (x price : ℕ) (r : Received) : Type 0 where
  pub amount : r.amount ≡ level_amount o x price
  pub sum : r.sum ≡ level_sum o price
