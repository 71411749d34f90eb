-- `put_rows` puts the rows of a book that has workings, and so is accepted.
-- Assumes nothing.
use Rattle.forms.proofs.Shows.{shows-none}
use Rattle.rowpages.proofs.Accepted.{worked-accepted}
use Rattle.rowpages.proofs.rows.put_rows.Goals as goal

pub returns-in_default : goal.returns-in_default
returns-in_default c = rw (← c.head_of.ensures, c.in_default.is) (shows-none _ _)

pub returns-in_default-workings : goal.returns-in_default-workings
returns-in_default-workings c =
    rw (← c.head_of.ensures, c.in-Some.is, ← c.workings.ensures, c.in_default-workings.is)
    (shows-none _ _)

pub put_some-requires : goal.put_some-requires
put_some-requires c =
    let counted = c.rows_of.ensures in
    (worked-accepted _ _ _ _ c.workings.ensures c.in-Ok.is, counted.0, counted.1)

pub returns : goal.returns
returns c =
    rw (← c.head_of.ensures, c.in-Some.is, ← c.workings.ensures, c.in-Ok.is, ← c.rows_of.ensures.0)
    c.put_some.ensures
