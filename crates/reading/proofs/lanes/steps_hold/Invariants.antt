-- `steps_hold` says whether each row has step 1 or stands behind the step before it. The loop's invariant: so it is of the rows passed,
-- of which row 0 is one.
-- Assumes nothing.
use mathlib.Core.Path.{◌≡◌}
use Prim.Native.Nat.{◌≤◌}
use Rattle.reading.specs.inner.Lanes.{steps_hold}
use Rattle.reading.proofs.lanes.steps_hold.Given as goal

abbrev pub invariant-loop-row : goal.invariant-loop-row
invariant-loop-row l = ((1 ≤ l.row) × (l.row ≤ l.n)) × (l.all ≡ steps_hold l.prices l.resources l.steps l.row)
