-- `holder_at` searches only for a place that the level has.
-- Assumes nothing.
use native.Mathlib.Omega.{arith}
use Rattle.workings.proofs.Contested.{no-one-past}
use Rattle.workings.proofs.spares.holder_at.Goals as goal

pub returns-then-contenders-place : goal.returns-then-contenders-place
returns-then-contenders-place c = no-one-past _ _ _ _ (omega (arith, c.if-contenders-place.true, c.requires))
