-- `is_blank` tells whether the n bytes from a place on are all zero. The loop's invariant: no bit is set exactly where the
-- bytes passed are all zero.
-- Assumes nothing.
use mathlib.Core.Path.{◌≡◌}
use Prim.Native.Nat.{◌≤◌, ◌-◌}
use lib.Dec.{eqb}
use Rattle.block.specs.Bytes.{blank}
use Rattle.block.proofs.bytes.is_blank.Given as goal

abbrev pub invariant-loop-i : goal.invariant-loop-i
invariant-loop-i l = (l.i ≤ l.n) × (eqb l.bits 0 ≡ blank l.s l.from l.i)

abbrev pub decreases-loop-i : goal.decreases-loop-i
decreases-loop-i l = l.n - l.i
