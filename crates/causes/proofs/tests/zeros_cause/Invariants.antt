-- `zeros_cause` finds the first byte that is not zero. The loop's invariant: each one passed holds.
-- Assumes nothing.
use mathlib.Core.Path.{◌≡◌}
use Prim.Native.Nat.{◌+◌, ◌≤◌}
use lib.Dec.{eqb}
use Rattle.block.specs.Bytes.{byte}
use Rattle.values.specs.Refusals.{no_fault, unless, first}
use Rattle.causes.specs.Cause.{not_zero}
use Rattle.causes.proofs.tests.zeros_cause.Given as goal

abbrev pub invariant-loop-i : goal.invariant-loop-i
invariant-loop-i l = (l.i ≤ l.n) × (first (λ j. unless (eqb (byte l.s (l.from + j)) 0) (not_zero (l.from + j))) l.i ≡ no_fault)
