-- `put_few` puts one row after another. The loop's invariant: the parts of the rows so far were put.
-- Assumes nothing.
use Rattle.forms.proofs.Shows.{shows_then}
use Rattle.forms.proofs.Putting.{parts_none, parts_more, parts-counted}
use Rattle.rowpages.specs.Rows.{few_parts}
use native.Mathlib.Omega.{arith}
use borrow.Author.Rules.{rules}
use Rattle.rowpages.proofs.few.put_few.Goals as goal

pub loop-row-init : goal.loop-row-init
loop-row-init c = (search rules, search rules, parts_none _ _ _)

pub loop-row-preserved : goal.loop-row-preserved
loop-row-preserved c =
    let both = shows_then _ _ _ _ _ _ _ _ c.put_row_of-own.ensures c.put_together_of-behind.ensures in
    (search rules, search rules, parts_more _ _ _ _ _ _ _ _ c.loop-row.invariant.2 both)

pub returns : goal.returns
unfolding few_parts
returns c = parts-counted _ _ _ _ _ (omega arith) c.loop-row.invariant.2
