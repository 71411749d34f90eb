-- `section_cause` finds the first block that fails. The loop's invariant: each one passed holds.
-- Assumes nothing.
use mathlib.Core.Path.{◌≡◌}
use Prim.Native.Nat.{◌≤◌}
use Rattle.values.specs.Refusals.{no_fault, first}
use Rattle.causes.specs.Cause.{block_cause}
use Rattle.causes.proofs.rows.section_cause.Given as goal

abbrev pub invariant-loop-j : goal.invariant-loop-j
invariant-loop-j l = (l.j ≤ l.j-end) × (first (block_cause l.book l.section) l.j ≡ no_fault)
