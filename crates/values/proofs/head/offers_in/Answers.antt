-- `values::head::offers_in` meets its contract.
-- Assumes nothing.
use Rattle.values.specs.Head.{offers_in}
use Rattle.values.proofs.head.offers_in.Goals as goal

pub returns : goal.returns
unfolding offers_in
returns c = c.u16_at.ensures
