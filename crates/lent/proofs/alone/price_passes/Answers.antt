-- `price_passes` joins the tests of a price.
-- Assumes nothing.
use mathlib.Core.Path.{refl}
use Rattle.lent.proofs.alone.price_passes.Goals as goal

pub returns : goal.returns
returns c = refl
