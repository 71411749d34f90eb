-- `put_cause` puts a line where a cause is found.
-- Assumes nothing.
use Rattle.forms.proofs.Shows.{shows-none, shows-one}
use Rattle.refusing.proofs.unread.put_cause.Goals as goal

pub returns-in-Some : goal.returns-in-Some
returns-in-Some c = rw (← c.layout_cause.ensures, c.in-Some.is, ← c.number.ensures) (shows-one c.put_layout.ensures)

pub returns-in-None : goal.returns-in-None
returns-in-None c = rw (← c.layout_cause.ensures, c.in-None.is) (shows-none _ _)
