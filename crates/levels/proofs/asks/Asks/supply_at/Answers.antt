-- `levels::asks::Asks::supply_at` is the supply at a price. The loop's invariant: the sum over the rows passed, each of which
-- adds at most 200,000.
-- Assumes nothing.
use mathlib.Core.Path.{ap, ◌∙◌}
use Prim.Native.Nat.{◌≤◌}
use native.Mathlib.Omega.{arith}
use Rattle.laws.specs.Sum.{sum_to, sum_where}
use Rattle.laws.proofs.Loops.{added_none, added_more}
use Rattle.auction.specs.Offers.{supply}
use Rattle.levels.proofs.asks.Asks.supply_at.Goals as goal
use Rattle.levels.proofs.asks.Asks.supply_at.Goals.{After-taken-sum}

pub loop-row-init : goal.loop-row-init
loop-row-init c = (omega arith, added_none _, omega arith)

-- a row adds at most 200,000
taken-most : (c : After-taken-sum) → c.taken-sum.result ≤ 200000
taken-most c = omega (arith, c.taken-sum.ensures.1, c.args.self.now.listed.small c.loop-row.row (omega arith))

pub overflow_add-sum : goal.overflow_add-sum
overflow_add-sum c = omega (arith, taken-most (goal.at.overflow_add-sum c).After-taken-sum)

pub loop-row-preserved : goal.loop-row-preserved
loop-row-preserved c =
    (omega arith, added_more _ _ c.loop-row.invariant.1 c.taken-sum.ensures.0, omega (arith, taken-most (goal.at.loop-row-preserved c).After-taken-sum))

pub returns : goal.returns
unfolding supply sum_where
returns c = (c.loop-row.invariant.1 ∙ ap (sum_to _) (omega arith), omega arith)
