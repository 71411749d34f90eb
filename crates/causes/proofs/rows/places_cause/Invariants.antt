-- `places_cause` finds the first place that fails. The loop's invariant: each one passed holds.
-- Assumes nothing.
use mathlib.Core.Path.{◌≡◌}
use Prim.Native.Nat.{◌+◌, ◌*◌, ◌≤◌}
use lib.Dec.{ltb}
use Rattle.values.specs.Refusals.{no_fault, first}
use Rattle.causes.specs.Cause.{place_cause}
use Rattle.causes.proofs.rows.places_cause.Given as goal

abbrev pub invariant-loop-i : goal.invariant-loop-i
invariant-loop-i l = (l.i ≤ 15) × (first (λ j. place_cause l.last (ltb j l.here) l.s (28 + j * 32)) l.i ≡ no_fault)
