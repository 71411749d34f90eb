-- `values_hold` says whether the columns of all rows are in range. The loop's invariant: so it is of the rows passed.
-- Assumes nothing.
use mathlib.Core.Path.{◌≡◌}
use Prim.Native.Nat.{◌≤◌}
use Rattle.reading.specs.inner.Lanes.{values_hold}
use Rattle.reading.proofs.lanes.values_hold.Given as goal

abbrev pub invariant-loop-row : goal.invariant-loop-row
invariant-loop-row l = (l.row ≤ l.n) × (l.all ≡ values_hold l.prices l.quantities l.leasts l.resources l.steps l.row)
