-- `put_missing` puts the parameters, and then one row after another. The loop's invariant: the rows so far were put.
-- Assumes nothing.
use Rattle.forms.proofs.Shows.{shows_more}
use Rattle.forms.proofs.Putting.{parts_none, parts_more, parts-counted}
use Rattle.refusing.specs.Missing.{missing_parts}
use native.Mathlib.Omega.{arith}
use borrow.Author.Rules.{rules}
use Rattle.refusing.proofs.missing.put_missing.Goals as goal

pub loop-row-init : goal.loop-row-init
loop-row-init c = (search rules, search rules, parts_none _ _ _)

pub loop-row-preserved : goal.loop-row-preserved
loop-row-preserved c =
    (search rules, search rules, parts_more _ _ _ _ _ _ _ _ c.loop-row.invariant.2 c.put_unpriced-behind.ensures)

pub returns : goal.returns
unfolding missing_parts
returns c =
    let counted = c.rows_of-row-end.ensures.0 in
    shows_more _ _ _ c.put_missing_parameters-behind.ensures
    (parts-counted _ _ _ _ _ (omega (arith, counted)) c.loop-row.invariant.2)
