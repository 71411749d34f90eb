-- The clearing price by the level at which the total stops, against any demand.
-- Assumes nothing.
use Rattle.std.specs.Prelude.{ℕ, cond, eqb, ltb, None}
use Rattle.std.proofs.Math.Option.{Option, none, some}
use Rattle.laws.specs.Largest.{lesser}
use Rattle.auction.specs.Offers.{Demand}
use Rattle.levels.specs.declared.level.Level.{Level}
use Rattle.pricing.specs.Price.{as_price, ClearingPrice}

-- the price of the level, where it has more than the total takes of it
abbrev pub level_price : Level → Option ℕ
level_price l = cond (ltb l.total l.reach) (some l.price) none

-- no price where the total is 0; else the lesser of the curve price at the total and the level's price, if that is there
unfoldable pub price_at : Demand → Level → ClearingPrice
price_at d l =
    cond (eqb l.total 0) None (as_price (some (lesser (d.price l.total) (level_price l))))
