-- `put_rung_of` puts a rung that is there.
-- Assumes nothing.
use Rattle.forms.proofs.Shows.{shows-none, shows-one}
use Rattle.headpage.proofs.rungs.put_rung_of.Goals as goal

pub returns-in-Some : goal.returns-in-Some
returns-in-Some c = rw (← c.ladder_of.ensures, c.in-Some.is) (shows-one c.put_rung.ensures)

pub returns-in-None : goal.returns-in-None
returns-in-None c = rw (← c.ladder_of.ensures, c.in-None.is) (shows-none _ _)
