-- `market::bracket::narrow` narrows a bracket. The loop's invariant: it is a bracket still, and no lower.
-- Assumes nothing.
use Rattle.std.proofs.Common.{◌-◌, ◌≤◌}
use Rattle.curve.specs.Price.{demand_of}
use Rattle.market.specs.inner.Bracket.{Under}
use Rattle.levels.specs.inner.Asks.{offers_in}
use Rattle.market.proofs.bracket.narrow.Given as goal

abbrev pub invariant-loop-at : goal.invariant-loop-at
invariant-loop-at l = Under (demand_of l.c) (offers_in l.asks) l.at × (l.initial.at.from ≤ l.at.from)

abbrev pub decreases-loop-at : goal.decreases-loop-at
decreases-loop-at l = l.at.cap - l.at.from
