-- `put_lines` puts the line of one row after another. The loop's invariant: the lines of the rows so far were put.
-- Assumes nothing.
use Rattle.forms.proofs.Putting.{parts_none, parts_more, parts-counted}
use native.Mathlib.Omega.{arith}
use borrow.Author.Rules.{rules}
use Rattle.rowpages.proofs.table.put_lines.Goals as goal

pub loop-row-init : goal.loop-row-init
loop-row-init c = (search rules, search rules, parts_none _ _ _)

pub loop-row-preserved : goal.loop-row-preserved
loop-row-preserved c =
    (search rules, search rules, parts_more _ _ _ _ _ _ _ _ c.loop-row.invariant.2 c.put_line_of-behind.ensures)

pub returns : goal.returns
returns c = parts-counted _ _ _ _ _ (omega arith) c.loop-row.invariant.2
