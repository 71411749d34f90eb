-- `levels::reach::reached` is the largest quantity at which the curve asks a price or more.
-- Assumes nothing.
use Prim.Native.Nat.{◌-◌}
use Rattle.curve.specs.Price.{demand_of}
use Rattle.levels.specs.inner.Reach.{Reaches}
use Rattle.levels.proofs.reach.reached.Given as goal

abbrev pub invariant-loop-low : goal.invariant-loop-low
invariant-loop-low l = Reaches (demand_of l.c) l.price l.below l.top l.low l.high

abbrev pub decreases-loop-low : goal.decreases-loop-low
decreases-loop-low l = l.high - l.low
