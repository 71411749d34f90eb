-- `contenders_at` counts the rows at a price. The loop's invariant: those of the rows passed.
-- Assumes nothing.
use mathlib.Core.Path.{refl, ap, ◌∙◌}
use native.Mathlib.Omega.{arith}
use Rattle.laws.specs.Sum.{sum_to, sum_where, count_where}
use Rattle.laws.proofs.Loops.{added_none, added_more}
use Rattle.turns.specs.Order.{contenders}
use Rattle.turns.proofs.Counted.{counted, counted-most}
use Rattle.turns.proofs.spare.contenders_at.Goals as goal

pub loop-held-init : goal.loop-held-init
loop-held-init c = (added_none _, omega arith)

pub loop-held-preserved : goal.loop-held-preserved
loop-held-preserved c =
    let told = c.from-count.ensures in
    (added_more _ _ c.loop-held.invariant.0 (counted told refl), omega (arith, counted-most _ told))

pub returns : goal.returns
unfolding contenders count_where sum_where
returns c = c.loop-held.invariant.0 ∙ ap (sum_to _) (omega arith)
