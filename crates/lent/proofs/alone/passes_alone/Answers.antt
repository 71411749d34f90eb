-- `passes_alone` joins the tests of a row.
-- Assumes nothing.
use mathlib.Core.Bool.{and_assoc}
use Rattle.lent.specs.inner.Alone.{passes_alone}
use Rattle.lent.proofs.alone.passes_alone.Goals as goal

pub returns : goal.returns
unfolding passes_alone
returns c = rw (c.price_passes.ensures, c.block_passes.ensures) (simp and_assoc)
