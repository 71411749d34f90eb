-- `put_stated_row` puts the offer of a row that is there, and behind it its values.
-- Assumes nothing.
use Rattle.forms.proofs.Shows.{shows-none, shows-one, shows_more}
use Rattle.refusing.proofs.stated.put_stated_row.Goals as goal

pub returns-in_default : goal.returns-in_default
returns-in_default c = rw (← c.offer_of.ensures, c.in_default.is) (shows-none _ _)

pub returns : goal.returns
returns c =
    rw (← c.offer_of.ensures, c.in-Some.is)
    (shows_more _ _ _ c.put_offer-behind.ensures (shows-one c.put_values.ensures))
