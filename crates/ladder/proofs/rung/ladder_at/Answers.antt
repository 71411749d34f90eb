-- `ladder_at` starts six levels down.
-- Assumes nothing.
use native.Mathlib.Omega.{arith}
use Rattle.ladder.proofs.Rungs.{stop-cheap, ladder-is}
use Rattle.ladder.proofs.rung.ladder_at.Goals as goal

pub overflow_add-stop : goal.overflow_add-stop
overflow_add-stop c = record { fits = omega (arith, stop-cheap _ _ _ c.requires) }

pub returns : goal.returns
returns c =
    ladder-is _ _ _ _ _ _ _ c.requires
    c.down_from-from.ensures c.supply_below.ensures.0 c.rung_at.ensures
