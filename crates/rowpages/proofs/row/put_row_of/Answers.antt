-- `put_row_of` puts a row by its offer and the workings of its book, where both are there.
-- Assumes nothing.
use Rattle.forms.proofs.Shows.{shows-none}
use Rattle.rowpages.proofs.row.put_row_of.Goals as goal

pub returns-in_default : goal.returns-in_default
returns-in_default c = rw (← c.offer_of.ensures, c.in_default.is) (shows-none _ _)

pub returns-in-Ok : goal.returns-in-Ok
returns-in-Ok c =
    rw (← c.offer_of.ensures, c.in-Some.is, ← c.workings.ensures, c.in-Ok.is)
    c.put_worked.ensures

pub returns-in-Err : goal.returns-in-Err
returns-in-Err c =
    rw (← c.offer_of.ensures, c.in-Some.is, ← c.workings.ensures, c.in-Err.is)
    (shows-none _ _)
