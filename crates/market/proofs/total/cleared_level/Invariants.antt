-- `market::total::cleared_level` is the level at which the cleared total stops. The loop's invariant: the total is no less than
-- what is offered below the bracket.
-- Assumes nothing.
use Rattle.std.proofs.Common.{◌-◌}
use Rattle.curve.specs.Price.{demand_of}
use Rattle.levels.specs.inner.Asks.{offers_in}
use Rattle.market.specs.inner.Bracket.{Under}
use Rattle.market.proofs.total.cleared_level.Given as goal

abbrev pub invariant-loop-c : goal.invariant-loop-c
invariant-loop-c l = Under (demand_of l.c) (offers_in l.asks) l.at

abbrev pub decreases-loop-c : goal.decreases-loop-c
decreases-loop-c l = 1000000 - l.at.from
