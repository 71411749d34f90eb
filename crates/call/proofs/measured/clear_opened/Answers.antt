-- `clear_opened` clears no rows as nothing, and else what columns of either length clear.
-- Assumes nothing.
use borrow.Author.Rules.{rules}
use Rattle.call.proofs.Calls.{opened_inside}
use Rattle.call.proofs.Empty.{outcome-empty}
use Rattle.call.proofs.measured.clear_opened.Goals as goal

pub returns-in-0 : goal.returns-in-0
returns-in-0 c = outcome-empty _ _ _ _ _ _ _ c.requires c.in-0.is c.clear_none.ensures

pub clear_in-requires-in_default : goal.clear_in-requires-in_default
clear_in-requires-in_default c = (c.requires, ((opened_inside _ _ _ _ c.requires).few, search rules))
