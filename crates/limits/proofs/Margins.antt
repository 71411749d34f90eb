-- What becomes of a reserve margin: refusals 4 and 5 at field 6.
--
-- In order: a margin that is missing is 4 exactly in the years that go by it; it is never 5; one that is given in a later year,
-- 0 too, never passes 5.
-- Assumes nothing.
use mathlib.Core.Path.{◌≡◌, sym, ap, ◌∙◌}
use mathlib.Core.Bool.{cond, true≢false}
use Prim.Native.Nat.{ℕ, ◌≤◌}
use Rattle.values.specs.Refusals.{missing_parameter, parameter_out_of_range, unless, and_then, no_fault}
use Rattle.values.specs.declared.Value.TheVariants.{Given, Missing}
use Rattle.values.specs.declared.head.Parameters.{Parameters}
use Rattle.limits.specs.Parameters.{within, given_within, by_margin, offset_most, missing_fault, range_fault}
use Rattle.limits.specs.inner.Offers.{is_given}
use Rattle.limits.proofs.Passing.{parameters-margin}

-- Where all else is given and the margin is missing, 4 is found at field 6 in the years that go by the margin, and in no other.
pub margin-asked : (p : Parameters) {c e f r : ℕ}
    → p.cost ≡ Given c → p.offset ≡ Given e → p.outage ≡ Given f → p.requirement ≡ Given r → p.margin ≡ Missing
    → missing_fault p ≡ cond (by_margin p.year) (missing_parameter 6) no_fault
unfolding missing_fault
margin-asked p c e f r m = simp (c, e, f, r, m)

-- A missing margin is no fault of soundness: the other fields decide 5.
pub margin-missing-sound : (p : Parameters) → p.margin ≡ Missing
    → range_fault p
    ≡ and_then (unless (within 2022 2099 p.year) (parameter_out_of_range 1))
    (and_then (unless (given_within 1 1000000 p.cost) (parameter_out_of_range 2))
    (and_then (unless (given_within 0 (offset_most p.cost) p.offset) (parameter_out_of_range 3))
    (and_then (unless (given_within 0 5000 p.outage) (parameter_out_of_range 4))
    (and_then (unless (given_within 1000 2000000 p.requirement) (parameter_out_of_range 5)) no_fault))))
unfolding range_fault
margin-missing-sound p m = simp m

-- A margin that is given in a year from 2026 on does not pass 5, whatever it is.
pub margin-late-refused : (p : Parameters) (margin : ℕ) → 2026 ≤ p.year → p.margin ≡ Given margin → range_fault p ≡ no_fault → ⊥
margin-late-refused p margin late given passed =
    true≢false (ap is_given (sym given ∙ parameters-margin p passed late))
