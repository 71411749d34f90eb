-- `put_worked` puts a row by its share and its workings, where both are there.
-- Assumes nothing.
use Rattle.forms.proofs.Shows.{shows-none}
use Rattle.rowpages.proofs.row.put_worked.Goals as goal

pub returns-in_default : goal.returns-in_default
returns-in_default c = rw c.in_default.is (shows-none _ _)

pub returns-in-Some-row : goal.returns-in-Some-row
returns-in-Some-row c = rw (c.in-Some.is, c.in-Some-row.is) c.put_full.ensures

pub returns-in-None : goal.returns-in-None
returns-in-None c = rw (c.in-Some.is, c.in-None.is) (shows-none _ _)
