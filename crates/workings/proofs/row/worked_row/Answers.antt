-- `worked_row` tells whether the row is there.
-- Assumes nothing.
use native.Mathlib.Omega.{arith}
use Rattle.workings.proofs.Rowed.{row-there, row-absent}
use Rattle.workings.proofs.row.worked_row.Goals as goal

pub returns-then-row-rows : goal.returns-then-row-rows
returns-then-row-rows c = row-there _ _ _ _ _ _ (omega arith) c.row_works.ensures

pub returns-else-row-rows : goal.returns-else-row-rows
returns-else-row-rows c = row-absent _ _ _ _ _ (omega arith)
