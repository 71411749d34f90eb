-- The first fault of parameters that stand in no book.
-- Assumes nothing.
use Rattle.values.specs.Refusals.{and_then, Verdict}
use Rattle.values.specs.declared.head.Parameters.{Parameters}
use Rattle.limits.specs.Parameters.{missing_fault, range_fault}

-- 4 at the first missing field, and then 5 by field
unfoldable pub parameters_fault : Parameters → Verdict
parameters_fault p = and_then (missing_fault p) (range_fault p)
