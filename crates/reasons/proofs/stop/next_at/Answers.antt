-- `next_at` is the tenth past a total, where the curve still buys.
-- Assumes nothing.
use native.Mathlib.Omega.{arith}
use Rattle.reasons.proofs.Stops.{next-bought, next-none}
use Rattle.reasons.proofs.stop.next_at.Goals as goal

pub returns-then-x-c : goal.returns-then-x-c
returns-then-x-c c = next-bought _ _ _ _ (omega arith) c.tenth_at.ensures

pub returns-else-x-c : goal.returns-else-x-c
returns-else-x-c c = next-none _ _ _ (omega arith)
