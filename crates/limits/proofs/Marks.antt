-- Refusal 4 by the marks: the lowest unset mark is the first missing field.
--
-- In order: when two verdicts are the same; what the trailing zeros of the inverted marks say, tested at all 256 marks; the
-- marks of a block 0 and its parameters.
-- Assumes nothing.
use mathlib.Core.Path.{◌≡◌, refl, ap}
use mathlib.Core.Bool.{Bool, true, false, cond, false≢true}
use mathlib.Core.List.{List}
use Prim.Native.Nat.{ℕ, ◌+◌, ◌-◌, ◌<◌}
use lib.Count.{count_trailing_zeros}
use lib.Dec.{ltb, eqb}
use lib.ListN.{get_or}
use borrow.Author.Tests.{eqb-true}
use Rattle.std.specs.Prelude.{Err, Ok}
use Rattle.laws.specs.Sum.{every}
use Rattle.laws.proofs.Everys.{every-at}
use Rattle.block.specs.Bytes.{u16_at}
use Rattle.values.specs.Values.{marked, value_of}
use Rattle.values.specs.Head.{parameters_of}
use Rattle.values.specs.Refusals.{missing_parameter, unless, Verdict, no_fault}
use Rattle.values.specs.declared.refusal.Refusal.TheVariants.{MissingParameter}
use Rattle.limits.specs.Parameters.{by_margin, field_fault, missing_fault}
use Rattle.limits.specs.inner.Parameters.{values_needed, missing_marks}

-- ---- two verdicts

abbrev same : Verdict → Verdict → Bool
same (Ok u) (Ok v) = true
same (Err (MissingParameter m)) (Err (MissingParameter n)) = eqb m n
same _ _ = false

same-path : (v w : Verdict) → same v w ≡ true → v ≡ w
same-path (Ok u) (Ok v) e = refl
same-path (Err (MissingParameter m)) (Err (MissingParameter n)) e = ap missing_parameter (eqb-true m n e)
same-path _ _ e = absurd (false≢true e)

-- ---- the lowest unset mark

-- what a number of set marks below the lowest unset one says, where so many values are needed
abbrev pub at_gap : ℕ → ℕ → Verdict
at_gap needed gap = cond (ltb gap needed) (missing_parameter (gap + 2)) no_fault

-- by the marks, with the margin or without
abbrev by_gap : Bool → ℕ → Verdict
by_gap with_margin marks = at_gap (values_needed with_margin) (count_trailing_zeros 8 (255 - marks))

all-marks : (with_margin : Bool) → every (λ marks. same (by_gap with_margin marks) (missing_marks with_margin marks)) 256 ≡ true
unfolding every count_trailing_zeros missing_marks marked
all-marks true = refl
all-marks false = refl

-- Trailing zeros of the inverted marks, plus two, give the first missing field, where it is needed.
pub gap-missing : (with_margin : Bool) (needed marks : ℕ) → needed ≡ values_needed with_margin → marks < 256
    → at_gap needed (count_trailing_zeros 8 (255 - marks)) ≡ missing_marks with_margin marks
gap-missing with_margin needed marks e l =
    rw e (same-path (by_gap with_margin marks) (missing_marks with_margin marks) (every-at _ 256 marks (all-marks with_margin) l))

-- ---- the parameters of a block 0

field_fault-value_of : (field : ℕ) (mark : Bool) (number : ℕ) → field_fault field (value_of mark number) ≡ unless mark (missing_parameter field)
field_fault-value_of field true number = refl
field_fault-value_of field false number = refl

-- The year and the marks of a block 0 tell which of its parameters is the first that is missing.
pub marks-missing : (s : List ℕ) (year : ℕ) → year ≡ u16_at s 6
    → missing_marks (by_margin year) (get_or s 26 0) ≡ missing_fault (parameters_of s)
unfolding missing_marks missing_fault parameters_of
marks-missing s year e = rw e (simp field_fault-value_of)
