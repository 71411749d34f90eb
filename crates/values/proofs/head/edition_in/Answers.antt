-- `values::head::edition_in` meets its contract.
-- Assumes nothing.
use Rattle.values.specs.Head.{edition_in}
use Rattle.values.proofs.head.edition_in.Goals as goal

pub returns : goal.returns
unfolding edition_in
returns c = c.u16_at.ensures
