-- `put_number` puts the digits with nothing in front.
-- Assumes nothing.
use Rattle.text.proofs.Fills.{right-none}
use Rattle.text.proofs.number.put_number.Goals as goal

pub returns : goal.returns
returns c = rw right-none at c.put_filled.ensures
