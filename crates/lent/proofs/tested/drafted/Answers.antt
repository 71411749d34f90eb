-- `drafted` leaves rows where nothing is refused.
-- Assumes nothing.
use mathlib.Core.Path.{refl}
use Rattle.lent.proofs.tested.drafted.Goals as goal

pub returns : goal.returns
returns c = rw c.rows_where.ensures refl
