-- `put_some` puts few rows in full and many as a table.
-- Assumes nothing.
use borrow.Author.Tests.{eq-eqb, ne_eqb, le-leb, lt-leb}
use Rattle.forms.proofs.Shows.{shows-none, shows_more}
use Rattle.rowpages.specs.Rows.{rows_by}
use Rattle.rowpages.proofs.rows.put_some.Goals as goal

pub returns-then-n-eq0 : goal.returns-then-n-eq0
unfolding rows_by
returns-then-n-eq0 c = rw (eq-eqb _ 0 c.if-n-eq0.true) (shows-none _ _)

pub returns-then-n-le-FEW : goal.returns-then-n-le-FEW
unfolding rows_by
returns-then-n-le-FEW c =
    rw (ne_eqb _ 0 c.if-n-eq0.false, le-leb _ 15 c.if-n-le-FEW.true)
    (shows_more _ _ _ c.put_rows_head-head.ensures c.put_few.ensures)

pub returns : goal.returns
unfolding rows_by
returns c =
    rw (ne_eqb _ 0 c.if-n-eq0.false, lt-leb _ 15 c.if-n-le-FEW.false)
    (shows_more _ _ _ c.put_table_head-head.ensures c.put_table.ensures)
