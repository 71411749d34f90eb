-- `values_hold` says whether the columns of all rows are in range. The loop's invariant: so it is of the rows passed.
-- Assumes nothing.
use mathlib.Core.Path.{sym, ap, ap₂, ◌∙◌}
use mathlib.Core.Bool.{◌&&◌}
use native.Mathlib.Numerals.{add-one}
use native.Mathlib.Omega.{arith}
use Rattle.laws.specs.Sum.{every}
use Rattle.laws.proofs.Everys.{every-zero, every-suc}
use Rattle.reading.proofs.lanes.values_hold.Goals as goal

pub loop-row-init : goal.loop-row-init
loop-row-init c = (omega arith, sym (every-zero _))

pub loop-row-preserved : goal.loop-row-preserved
loop-row-preserved c = (omega arith, rw (add-one, every-suc) (ap₂ ◌&&◌ c.loop-row.invariant.1 c.row_holds-all.ensures))

pub returns : goal.returns
returns c = c.loop-row.invariant.1 ∙ ap (every _) (omega arith)
