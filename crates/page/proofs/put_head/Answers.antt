-- `put_head` puts what a book states and answers, or why it cannot be read.
-- Assumes nothing.
use Rattle.forms.proofs.Shows.{shows_more}
use Rattle.page.specs.Page.{head_parts}
use Rattle.page.proofs.put_head.Goals as goal

pub returns-in_default : goal.returns-in_default
unfolding head_parts
returns-in_default c = rw (← c.head_of.ensures, c.in_default.is) c.put_unread.ensures

pub returns : goal.returns
unfolding head_parts
returns c = rw (← c.head_of.ensures, c.in-Some.is) (shows_more _ _ _ c.put_stated-behind.ensures c.put_answered.ensures)
