-- `ladder_of` answers the ladder of the workings, or one that has no rung.
-- Assumes nothing.
use mathlib.Core.Path.{refl}
use Rattle.headpage.proofs.facts.ladder_of.Goals as goal

pub returns-in-Ok : goal.returns-in-Ok
returns-in-Ok c = rw (← c.workings.ensures, c.in-Ok.is) refl

pub returns-in-Err : goal.returns-in-Err
returns-in-Err c = rw (← c.workings.ensures, c.in-Err.is) refl
