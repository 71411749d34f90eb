-- `put_unread` puts what belongs to the refusal, each arm its own.
-- Assumes nothing.
use Rattle.forms.proofs.Shows.{shows-none, shows-one}
use Rattle.refusing.proofs.Others.{unread-other}
use Rattle.refusing.proofs.unread.put_unread.Goals as goal

pub returns-in_default : goal.returns-in_default
returns-in_default c = rw (← c.form.ensures, c.in_default.is) (shows-none _ _)

pub returns-in-WrongLength : goal.returns-in-WrongLength
returns-in-WrongLength c = rw (← c.form.ensures, c.in-Err.is, c.in-WrongLength.is) (shows-one c.put_length.ensures)

pub returns-in-WrongCheck : goal.returns-in-WrongCheck
returns-in-WrongCheck c = rw (← c.form.ensures, c.in-Err.is, c.in-WrongCheck.is) (shows-one c.put_check.ensures)

pub returns-in_default-refusal : goal.returns-in_default-refusal
returns-in_default-refusal c =
    rw (← c.form.ensures, c.in-Err.is, unread-other _ _ c.in_default-refusal.not-WrongLength c.in_default-refusal.not-WrongCheck, ← c.place.ensures)
    c.put_cause.ensures
