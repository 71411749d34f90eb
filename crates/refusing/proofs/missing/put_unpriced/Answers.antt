-- `put_unpriced` puts a line where a row is there and its price is missing.
-- Assumes nothing.
use Rattle.forms.proofs.Shows.{shows-none, shows-one}
use Rattle.refusing.proofs.missing.put_unpriced.Goals as goal

pub returns-in_default : goal.returns-in_default
returns-in_default c = rw (← c.offer_of.ensures, c.in_default.is) (shows-none _ _)

pub returns-in-Given : goal.returns-in-Given
returns-in-Given c = rw (← c.offer_of.ensures, c.in-Some.is, c.in-Given.is) (shows-none _ _)

pub returns-in-Missing : goal.returns-in-Missing
returns-in-Missing c =
    rw (← c.offer_of.ensures, c.in-Some.is, c.in-Missing.is)
    (shows-one c.put_missing_price.ensures)
