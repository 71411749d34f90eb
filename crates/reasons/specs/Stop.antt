-- Where a total stops on the curve.
-- Assumes nothing.
use Rattle.std.specs.Prelude.{ℕ, ◌+◌, cond, ltb, Some, None}
use Rattle.auction.specs.Offers.{Offers, supply, level_sum}
use Rattle.auction.specs.Clearing.{cleared_total}
use Rattle.auction.specs.Shares.{level_amount}
use Rattle.curve.specs.Price.{tenth_price, demand_of}
use Rattle.curve.specs.declared.Curve.{Curve}
use Rattle.levels.specs.Stop.{stop_level}
use Rattle.levels.specs.declared.level.Level.{Level}
use Rattle.reasons.specs.declared.stop.Tenth.{Tenth}
use Rattle.reasons.specs.declared.stop.Stop.{Stop}
use Rattle.std.specs.declared.option.Option.{Option}

-- the tenth past a total: none where the total is the curve's last point, past which nothing is bought
abbrev pub Next : Type 0
Next = Option Tenth

-- the level at which a total x stops
unfoldable pub level_at : Offers → ℕ → Level
level_at o x =
    let p = stop_level o x in
    record { total = x; price = p; amount = level_amount o x p; sum = level_sum o p; reach = supply o p }

-- the curve price at k, and everything offered at it or below
unfoldable pub tenth_at : Curve → Offers → ℕ → Tenth
tenth_at c o k = record { price = record { 0 = tenth_price c k }; offered = supply o (tenth_price c k) }

-- the tenth past x; past the curve's last point nothing is bought
unfoldable pub next_at : Curve → Offers → ℕ → Next
next_at c o x = cond (ltb x c.q3) (Some (tenth_at c o (x + 1))) None

-- the curve, with the level, the last tenth and the next one of the cleared total
unfoldable pub stop_at : Curve → Offers → Stop
stop_at c o =
    let x = cleared_total (demand_of c) o in
    record { curve = c; level = level_at o x; last = tenth_at c o x; next = next_at c o x }
