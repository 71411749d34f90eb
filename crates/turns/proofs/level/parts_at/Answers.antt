-- `parts_at` sums the parts of a level rounded down. The loop's invariant: the sum over the rows passed, each of which adds at most
-- 200,000.
-- Assumes nothing.
use mathlib.Core.Path.{ap, ◌∙◌}
use Prim.Native.Nat.{◌≤◌}
use native.Mathlib.Omega.{arith}
use Rattle.laws.specs.Sum.{sum_to, sum_where}
use Rattle.laws.proofs.Loops.{added_none, added_more}
use Rattle.turns.specs.inner.Contending.{parts_in}
use Rattle.turns.proofs.level.parts_at.Goals as goal
use Rattle.turns.proofs.level.parts_at.Goals.{After-part-sum}

pub loop-row-init : goal.loop-row-init
loop-row-init c = (omega arith, added_none _, omega arith)

pub part-sum-requires : goal.part-sum-requires
part-sum-requires c =
    (c.requires.some c.loop-row.row (omega arith), c.requires.within, c.args.asks.now.listed.small c.loop-row.row (omega arith))

-- a row adds at most 200,000
part-most : (c : After-part-sum) → c.part-sum.result ≤ 200000
part-most c = omega (arith, c.part-sum.ensures.1, c.args.asks.now.listed.small c.loop-row.row (omega arith))

pub overflow_add-sum : goal.overflow_add-sum
overflow_add-sum c = omega (arith, part-most (goal.at.overflow_add-sum c).After-part-sum, c.args.asks.now.listed.few)

pub loop-row-preserved : goal.loop-row-preserved
loop-row-preserved c =
    (omega arith, added_more _ _ c.loop-row.invariant.1 c.part-sum.ensures.0, omega (arith, part-most (goal.at.loop-row-preserved c).After-part-sum))

pub returns : goal.returns
unfolding parts_in sum_where
returns c = c.loop-row.invariant.1 ∙ ap (sum_to _) (omega arith)
