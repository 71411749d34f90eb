-- `put_fault` puts a parameter for 1 to 5, and a row for the others.
-- Assumes nothing.
use Rattle.forms.proofs.Shows.{shows-one}
use Rattle.refusing.proofs.Others.{fault-field, fault-row}
use Rattle.refusing.proofs.refused.put_fault.Goals as goal

pub returns-in-WrongLength : goal.returns-in-WrongLength
returns-in-WrongLength c =
    rw (fault-field _ _ _ c.in-WrongLength.is, ← c.number.ensures, ← c.place.ensures) (shows-one c.put_parameter.ensures)

pub returns-in_default : goal.returns-in_default
returns-in_default c =
    let d = c.in_default in
    rw (fault-row _ _ _ d.not-WrongLength d.not-WrongCheck d.not-WrongLayout d.not-MissingParameter d.not-ParameterOutOfRange, ← c.place-in_default.ensures)
    c.put_row_refused.ensures
