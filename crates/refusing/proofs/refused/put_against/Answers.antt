-- `put_against` puts what belongs to the refusal, each arm its own.
-- Assumes nothing.
use Rattle.forms.proofs.Shows.{shows-none, shows-one}
use Rattle.refusing.proofs.Others.{against-other}
use Rattle.refusing.proofs.refused.put_against.Goals as goal

pub returns-in-Some : goal.returns-in-Some
returns-in-Some c = rw (c.in-RepeatedResource.is, ← c.offer_of.ensures, c.in-Some.is) (shows-one c.put_offer.ensures)

pub returns-in-None : goal.returns-in-None
returns-in-None c = rw (c.in-RepeatedResource.is, ← c.offer_of.ensures, c.in-None.is) (shows-none _ _)

pub returns-in-BrokenSteps : goal.returns-in-BrokenSteps
returns-in-BrokenSteps c = rw c.in-BrokenSteps.is c.put_steps.ensures

pub returns-in_default : goal.returns-in_default
returns-in_default c =
    rw (against-other _ _ _ _ _ _ c.in_default.not-RepeatedResource c.in_default.not-BrokenSteps) (shows-none _ _)
