-- `put_row_refused` puts the refusal of a row that is there, and behind it what is wrong.
-- Assumes nothing.
use Rattle.forms.proofs.Shows.{shows-none, shows_more}
use Rattle.refusing.proofs.refused.put_row_refused.Goals as goal

pub returns-in_default : goal.returns-in_default
returns-in_default c = rw (← c.offer_of.ensures, c.in_default.is) (shows-none _ _)

pub returns : goal.returns
returns c =
    rw (← c.offer_of.ensures, c.in-Some.is, ← c.earlier_row-first.ensures, ← c.number.ensures)
    (shows_more _ _ _ c.put_refused_row-behind.ensures c.put_wrong.ensures)
