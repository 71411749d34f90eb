-- `block_passes` joins the tests of a minimum block.
-- Assumes nothing.
use mathlib.Core.Bool.{and_assoc}
use Rattle.lent.proofs.alone.block_passes.Goals as goal

pub returns : goal.returns
returns c = simp and_assoc
