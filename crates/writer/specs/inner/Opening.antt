-- What is refused before the rows are looked at.
-- Assumes nothing.
use Rattle.std.specs.Prelude.{ℕ, leb}
use Rattle.values.specs.Refusals.{unless, and_then, wrong_layout, too_many_rows, Verdict}
use Rattle.values.specs.declared.head.Parameters.{Parameters}
use Rattle.layout.specs.Layout.{edition_known}
use Rattle.limits.specs.Parameters.{range_fault}

-- 3 of the edition, 19, and then 5
unfoldable pub opening_fault : ℕ → Parameters → ℕ → Verdict
opening_fault edition p rows =
    and_then (unless (edition_known edition) (wrong_layout 0)) (and_then (unless (leb rows 600) too_many_rows) (range_fault p))
