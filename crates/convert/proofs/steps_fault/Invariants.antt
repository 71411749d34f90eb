-- `steps_fault` finds the first row with a step of 2 or more. The loop's invariant: the rows passed had none.
-- Assumes nothing.
use mathlib.Core.Path.{◌≡◌}
use Prim.Native.Nat.{◌-◌, ◌≤◌}
use Rattle.values.specs.Refusals.{first, no_fault}
use Rattle.layout.specs.Read.{row_offers}
use Rattle.convert.proofs.Converted.{one_step}
use Rattle.convert.proofs.steps_fault.Given as goal

abbrev pub invariant-loop-row : goal.invariant-loop-row
invariant-loop-row l = (l.row ≤ l.n) × (first (one_step (row_offers l.book l.edition 1 l.n)) l.row ≡ no_fault)

abbrev pub decreases-loop-row : goal.decreases-loop-row
decreases-loop-row l = l.n - l.row
