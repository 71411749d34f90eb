-- `put_line_of` puts the line of a row whose offer is there.
-- Assumes nothing.
use Rattle.forms.proofs.Shows.{shows-none, shows-one}
use Rattle.rowpages.proofs.table.put_line_of.Goals as goal

pub returns-in-Some : goal.returns-in-Some
returns-in-Some c =
    rw (← c.offer_of.ensures, c.in-Some.is, ← c.make_whole.ensures)
    (shows-one c.put_line.ensures)

pub returns-in-None : goal.returns-in-None
returns-in-None c = rw (← c.offer_of.ensures, c.in-None.is) (shows-none _ _)
