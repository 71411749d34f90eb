-- `letters_cause` finds the first letter that differs. The loop's invariant: each one passed holds.
-- Assumes nothing.
use mathlib.Core.Path.{◌≡◌}
use Prim.Native.Nat.{◌≤◌}
use lib.Dec.{eqb}
use Rattle.block.specs.Bytes.{byte}
use Rattle.values.specs.Refusals.{no_fault, unless, first}
use Rattle.causes.specs.Cause.{wrong_letter}
use Rattle.causes.proofs.tests.letters_cause.Given as goal

abbrev pub invariant-loop-i : goal.invariant-loop-i
invariant-loop-i l = (l.i ≤ 4) × (first (λ j. unless (eqb (byte l.s j) (byte l.letters j)) (wrong_letter j)) l.i ≡ no_fault)
