-- `market::total::cleared_level` is the level at which the cleared total stops. The loop's invariant: the total is no less than
-- what is offered below the bracket.
-- Assumes nothing.
use Rattle.std.proofs.Common.{◌≡◌, ◌<◌, ◌≤◌, false, sym, ◌∙◌, arith}
use Rattle.auction.specs.Offers.{Offers, supply_below}
use Rattle.curve.specs.Price.{demand_of, tenth_price}
use Rattle.curve.proofs.Prices.{curve-falls, price-most}
use Rattle.levels.specs.inner.Asks.{offers_in}
use Rattle.levels.specs.inner.Reach.{stops_there}
use Rattle.levels.proofs.Reaching.{goes-past}
use Rattle.market.proofs.Narrowing.{under_whole, below_next}
use Rattle.market.proofs.Stopping.{below-upto, reached-all, reached-stops}
use Rattle.market.proofs.total.cleared_level.Goals as goal
use Rattle.market.proofs.total.cleared_level.Goals.{After-supply_at-reach, Else-stops, Start}

-- the offers of the rows
abbrev offers : After-supply_at-reach → Offers
offers c = offers_in c.args.asks.now

-- the curve asks no more than 1,000,000
capped : (c : Start) → tenth_price c.args.c 0 ≤ 1000000
capped c = omega (arith, price-most c.args.c c.requires 0, c.requires.price-most)

-- what is offered below the next price, and that it is no more than what is offered up to it
below : (c : After-supply_at-reach)
    → supply_below (offers c) c.next_tried-price.result
    ≡ c.narrow-at.result.below
below c =
    let asks = c.args.asks.now in
    below_next (demand_of c.args.c) asks.prices.now asks.quantities.now _ c.narrow-at.result c.next_tried-price.result
    c.narrow-at.ensures.0 c.next_tried-price.ensures

upto : (c : After-supply_at-reach) → c.narrow-at.result.below ≤ c.supply_at-reach.result
upto c = below-upto _ c.next_tried-price.result _ _ (below c) c.supply_at-reach.ensures.0

pub narrowed-at-requires : goal.narrowed-at-requires
narrowed-at-requires c =
    record {
      shaped = (c.requires, under_whole _ _ _ _ (omega arith));
      from_le_price = (omega arith, omega arith);
    }

pub level_at-level-requires : goal.level_at-level-requires
level_at-level-requires c =
    (c.requires, upto (goal.at.level_at-level-requires c).After-supply_at-reach, c.narrow-at.ensures.0.within)

pub returns-then-stops : goal.returns-then-stops
returns-then-stops c =
    let at = goal.at.returns-then-stops c in (
      reached-stops (demand_of c.args.c) (offers at.After-supply_at-reach) (curve-falls _ c.requires) _ c.narrow-at.ensures.0 _ _
          (below at.After-supply_at-reach) c.supply_at-reach.ensures.0 _ c.level_at-level.ensures
          (capped at.Start) c.next_tried-price.ensures.high (sym c.stops.ensures ∙ c.if-stops.true),
      omega (arith, c.level_at-level.ensures.total.end),
    )

-- where the search goes on, the total goes past the level
past : (c : Else-stops) → stops_there c.level_at-level.result ≡ false
past c = sym c.stops.ensures ∙ c.if-stops.false

-- and there is a higher price
under-most : (c : Else-stops) → c.next_tried-price.result < 1000000
under-most c =
    omega (arith, c.next_tried-price.ensures.high, (goes-past _ (past c)).1, c.level_at-level.ensures.price)

pub loop-c-smaller : goal.loop-c-smaller
loop-c-smaller c =
    omega (arith, under-most (goal.at.loop-c-smaller c).Else-stops, c.next_tried-price.ensures.low, c.narrow-at.ensures.1)

pub loop-c-preserved : goal.loop-c-preserved
loop-c-preserved c =
    let at = goal.at.loop-c-preserved c in
    reached-all (demand_of c.args.c) (offers at.After-supply_at-reach) (curve-falls _ c.requires) _ c.narrow-at.ensures.0 _ _
    (below at.After-supply_at-reach) c.supply_at-reach.ensures.0 _ c.level_at-level.ensures (past at.Else-stops) (under-most at.Else-stops)
