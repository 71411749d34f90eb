-- `put_answered` puts how a book clears or why it is refused, by what the call answers.
-- Assumes nothing.
use Rattle.page.proofs.put_answered.Goals as goal

pub returns-in-Ok : goal.returns-in-Ok
returns-in-Ok c = rw (← c.quote.ensures, c.in-Ok.is) c.put_accepted.ensures

pub returns-in-Err : goal.returns-in-Err
returns-in-Err c = rw (← c.quote.ensures, c.in-Err.is) c.put_refused.ensures
