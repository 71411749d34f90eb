-- `cleared_of` reads what a row clears from the workings of its book.
-- Assumes nothing.
use Rattle.rowpages.proofs.together.cleared_of.Goals as goal

pub returns-in_default : goal.returns-in_default
returns-in_default c = rw (← c.workings.ensures, c.in_default.is)
