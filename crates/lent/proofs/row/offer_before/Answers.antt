-- `offer_before` makes an offer of what is kept of one.
-- Assumes nothing.
use mathlib.Core.Path.{refl}
use Rattle.lent.proofs.row.offer_before.Goals as goal

pub returns : goal.returns
returns c = refl
