-- `put_place_of` puts who holds a place, where someone does.
-- Assumes nothing.
use Rattle.forms.proofs.Shows.{shows-none, shows-one}
use Rattle.headpage.proofs.division.put_place_of.Goals as goal

pub returns-in-Some : goal.returns-in-Some
returns-in-Some c = rw (← c.placed_of.ensures, c.in-Some.is) (shows-one c.put_place.ensures)

pub returns-in-None : goal.returns-in-None
returns-in-None c = rw (← c.placed_of.ensures, c.in-None.is) (shows-none _ _)
