-- The price level at which a total stops.
-- Assumes nothing.
use Rattle.std.specs.Prelude.{ℕ, leb}
use Rattle.laws.specs.Largest.{largest}
use Rattle.auction.specs.Offers.{Offers, supply_below}

-- the highest price up to 1,000,000 such that what is offered strictly below it is at most x
unfoldable pub stop_level : Offers → ℕ → ℕ
stop_level o x = largest (λ p. leb (supply_below o p) x) 1000000
