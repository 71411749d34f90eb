-- `before_in` counts who stands before a contender. The loop's invariant: those of the rows passed.
-- Assumes nothing.
use mathlib.Core.Path.{ap, ◌∙◌}
use native.Mathlib.Omega.{arith}
use Rattle.laws.specs.Sum.{sum_to, sum_where, count_where}
use Rattle.laws.proofs.Loops.{added_none, added_more}
use Rattle.turns.specs.inner.Contending.{before_in}
use Rattle.turns.proofs.Counted.{counted, counted-most}
use Rattle.turns.proofs.standing.before_in.Goals as goal

pub loop-row-init : goal.loop-row-init
loop-row-init c = (omega arith, added_none _, omega arith)

pub is_before-requires : goal.is_before-requires
is_before-requires c =
    (omega arith, c.requires.some c.loop-row.row (omega arith))

pub loop-row-preserved : goal.loop-row-preserved
loop-row-preserved c =
    let told = c.from-count.ensures in
    (omega arith, added_more _ _ c.loop-row.invariant.1 (counted told c.is_before.ensures), omega (arith, counted-most _ told))

pub returns : goal.returns
unfolding before_in count_where sum_where
returns c = (c.loop-row.invariant.1 ∙ ap (sum_to _) (omega arith), omega (arith, c.args.rows.now.asks.listed.few))
