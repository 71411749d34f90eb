-- `put_ladder_head` puts the ladder's head where there is a first rung.
-- Assumes nothing.
use Rattle.forms.proofs.Shows.{shows-none, shows-one}
use Rattle.headpage.proofs.rungs.put_ladder_head.Goals as goal

pub returns-in-Some : goal.returns-in-Some
returns-in-Some c = rw (← c.ladder_of-ladder.ensures, c.in-Some.is) (shows-one c.put_ladder.ensures)

pub returns-in-None : goal.returns-in-None
returns-in-None c = rw (← c.ladder_of-ladder.ensures, c.in-None.is) (shows-none _ _)
