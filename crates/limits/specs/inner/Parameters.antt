-- Refusal 4, told by the marks.
-- Assumes nothing.
use Rattle.std.specs.Prelude.{ℕ, Bool, cond}
use Rattle.values.specs.Values.{marked}
use Rattle.values.specs.Refusals.{missing_parameter, unless, and_then, Verdict, no_fault}

-- how many of the values are needed, in the order of their marks: all five, or, without the margin, which is the last, four
abbrev pub values_needed : Bool → ℕ
values_needed with_margin = cond with_margin 5 4

-- the same by the marks alone, of which bits 0 to 4 say that fields 2 to 6 are given, the last being needed or not
unfoldable pub missing_marks : Bool → ℕ → Verdict
missing_marks with_margin marks =
    and_then (unless (marked marks 0) (missing_parameter 2))
    (and_then (unless (marked marks 1) (missing_parameter 3))
    (and_then (unless (marked marks 2) (missing_parameter 4))
    (and_then (unless (marked marks 3) (missing_parameter 5))
    (cond with_margin (unless (marked marks 4) (missing_parameter 6)) no_fault))))
