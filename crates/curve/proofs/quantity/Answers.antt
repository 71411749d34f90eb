-- `curve::quantity` meets its contract: it divides as `nearest` does.
-- Assumes nothing.
use Rattle.laws.specs.Nearest.{nearest}
use Rattle.curve.proofs.quantity.Goals as goal

pub returns : goal.returns
unfolding nearest
returns c = rw (c.from.ensures, c.from-2.ensures, c.from-over.ensures)
