-- `put_row_page` puts a row in full where the book has workings, and else as the book states it.
-- Assumes nothing.
use Rattle.forms.proofs.Shows.{shows-none}
use Rattle.page.specs.Page.{row_page_parts}
use Rattle.page.proofs.row.put_row_page.Goals as goal

pub returns-in_default : goal.returns-in_default
unfolding row_page_parts
returns-in_default c = rw (← c.head_of.ensures, c.in_default.is) (shows-none _ _)

pub returns-in-Ok : goal.returns-in-Ok
unfolding row_page_parts
returns-in-Ok c =
    rw (← c.head_of.ensures, c.in-Some.is, ← c.workings.ensures, c.in-Ok.is)
    c.put_row_of.ensures

pub returns-in-Err : goal.returns-in-Err
unfolding row_page_parts
returns-in-Err c =
    rw (← c.head_of.ensures, c.in-Some.is, ← c.workings.ensures, c.in-Err.is)
    c.put_stated_row.ensures
