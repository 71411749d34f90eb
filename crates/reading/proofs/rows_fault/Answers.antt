-- `rows_fault` passes where there are no rows.
-- Assumes nothing.
use Rattle.reading.proofs.Tests.{rows_none}
use Rattle.reading.proofs.rows_fault.Goals as goal

pub returns-then-n-eq0 : goal.returns-then-n-eq0
returns-then-n-eq0 c = rows_none _ _ _ c.if-n-eq0.true
