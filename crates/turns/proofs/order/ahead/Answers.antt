-- `ahead` compares the key that decides.
-- Assumes nothing.
use Rattle.turns.proofs.Ordering.{ahead-decided}
use Rattle.turns.proofs.order.ahead.Goals as goal

pub returns-in-Remainder : goal.returns-in-Remainder
returns-in-Remainder c = ahead-decided _ _ _ c.in-Remainder.ensures

pub returns-in-Stamp : goal.returns-in-Stamp
returns-in-Stamp c = ahead-decided _ _ _ c.in-Stamp.ensures

pub returns-in-Resource : goal.returns-in-Resource
returns-in-Resource c = ahead-decided _ _ _ c.in-Resource.ensures

pub returns-in-Step : goal.returns-in-Step
returns-in-Step c = ahead-decided _ _ _ c.in-Step.ensures
