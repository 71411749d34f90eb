-- The contracts of the limits leave one answer: any two that a contract allows for the same arguments coincide, wherever the
-- bytes and the resource numbers lie.
--
-- In order: the years that go by the margin, 4 by the marks and in a block 0, numbers within limits, the most of an offset, 5,
-- 4 and 5 of parameters outside a book, the steps of an edition, 6 and 7 of an offer, 6, 7 and 10 of a row past step 1, the rows
-- before a refused one, 8.
-- Assumes nothing.
use mathlib.Core.Path.{◌≡◌, sym, ap, ap₂, ◌∙◌}
use mathlib.Core.Bool.{Bool}
use mathlib.Core.List.{List}
use Prim.Native.Nat.{ℕ}
use contract.Lifetimes.{Lfts}
use denote.Ref.{Bor}
use lib.ListN.{get_or}
use Rattle.values.specs.Head.{parameters_of}
use Rattle.values.specs.declared.Value.{Value}
use Rattle.values.specs.declared.head.Parameters.{Parameters}
use Rattle.values.specs.declared.place.Offer.{Offer}
use Rattle.limits.specs.Parameters.{missing_fault}
use Rattle.limits.specs.inner.Rows.{with_repeats}
use Rattle.limits.proofs.parameters.by_margin.Reads as by-margin
use Rattle.limits.proofs.parameters.missing.Reads as missing
use Rattle.limits.proofs.parameters.missing_in.Reads as missing-in
use Rattle.limits.proofs.parameters.within.Reads as within
use Rattle.limits.proofs.parameters.given_within.Reads as given-within
use Rattle.limits.proofs.parameters.offset_most.Reads as offset-most
use Rattle.limits.proofs.parameters.parameter_fault.Reads as parameter-fault
use Rattle.limits.proofs.given.parameters_verdict.Reads as parameters-verdict
use Rattle.limits.proofs.offers.step_within.Reads as step-within
use Rattle.limits.proofs.offers.offer_fault.Reads as offer-fault
use Rattle.limits.proofs.offers.past_fault.Reads as past-fault
use Rattle.limits.proofs.repeated.rows_before.Reads as rows-before
use Rattle.limits.proofs.repeated.with_repeats.Reads as with-repeats
use Rattle.values.specs.Refusals.{Verdict}

-- whether a year's curve goes by the margin, by the contract of `by_margin`
pub by-margin-decided : (year : ℕ) (r s : Bool)
    → by-margin.Post tt (year, tt) r (year, tt) → by-margin.Post tt (year, tt) s (year, tt) → r ≡ s
by-margin-decided year r s e f = e ∙ sym f

-- 4, by the contract of `missing`
pub missing-decided : (year marks : ℕ) (r s : Verdict)
    → missing.Post tt (year, (marks, tt)) r (year, (marks, tt)) → missing.Post tt (year, (marks, tt)) s (year, (marks, tt)) → r ≡ s
missing-decided year marks r s e f = e ∙ sym f

-- 4 of a block 0, by the contract of `missing_in`
pub missing-in-decided : (κs : Lfts 1) (block other : Bor (List ℕ)) (r s : Verdict)
    → block.now ≡ other.now
    → missing-in.Post κs (block, tt) r (block, tt)
    → missing-in.Post κs (other, tt) s (other, tt)
    → r ≡ s
missing-in-decided κs block other r s same e f = e ∙ ap (λ (b : List ℕ). missing_fault (parameters_of b)) same ∙ sym f

-- whether a number is from a least to a most, by the contract of `within`
pub within-decided : (least most number : ℕ) (r s : Bool)
    → within.Post tt (least, (most, (number, tt))) r (least, (most, (number, tt)))
    → within.Post tt (least, (most, (number, tt))) s (least, (most, (number, tt))) → r ≡ s
within-decided least most number r s e f = e ∙ sym f

-- whether a value is missing, or given from a least to a most, by the contract of `given_within`
pub given-within-decided : (least most : ℕ) (v : Value) (r s : Bool)
    → given-within.Post tt (least, (most, (v, tt))) r (least, (most, (v, tt)))
    → given-within.Post tt (least, (most, (v, tt))) s (least, (most, (v, tt))) → r ≡ s
given-within-decided least most v r s e f = e ∙ sym f

-- the most of an offset, by the contract of `offset_most`
pub offset-most-decided : (cost : Value) (r s : ℕ)
    → offset-most.Post tt (cost, tt) r (cost, tt) → offset-most.Post tt (cost, tt) s (cost, tt) → r ≡ s
offset-most-decided cost r s e f = e ∙ sym f

-- 5, by the contract of `parameter_fault`
pub parameter-fault-decided : (p : Parameters) (r s : Verdict)
    → parameter-fault.Post tt (p, tt) r (p, tt) → parameter-fault.Post tt (p, tt) s (p, tt) → r ≡ s
parameter-fault-decided p r s e f = e ∙ sym f

-- 4 and 5 of parameters that stand in no book, by the contract of `parameters_verdict`
pub parameters-verdict-decided : (p : Parameters) (r s : Verdict)
    → parameters-verdict.Post tt (p, tt) r (p, tt) → parameters-verdict.Post tt (p, tt) s (p, tt) → r ≡ s
parameters-verdict-decided p r s e f = e ∙ sym f

-- whether an edition can have a step, by the contract of `step_within`
pub step-within-decided : (edition step : ℕ) (r s : Bool)
    → step-within.Post tt (edition, (step, tt)) r (edition, (step, tt))
    → step-within.Post tt (edition, (step, tt)) s (edition, (step, tt)) → r ≡ s
step-within-decided edition step r s e f = e ∙ sym f

-- 6 and 7, by the contract of `offer_fault`
pub offer-fault-decided : (needed : Bool) (edition : ℕ) (o : Offer) (row : ℕ) (r s : Verdict)
    → offer-fault.Post tt (needed, (edition, (o, (row, tt)))) r (needed, (edition, (o, (row, tt))))
    → offer-fault.Post tt (needed, (edition, (o, (row, tt)))) s (needed, (edition, (o, (row, tt)))) → r ≡ s
offer-fault-decided needed edition o row r s e f = e ∙ sym f

-- 6, 7 and 10 past step 1, by the contract of `past_fault`
pub past-fault-decided : (needed : Bool) (edition : ℕ) (o : Offer) (follows : Bool) (row : ℕ) (r s : Verdict)
    → past-fault.Post tt (needed, (edition, (o, (follows, (row, tt))))) r (needed, (edition, (o, (follows, (row, tt)))))
    → past-fault.Post tt (needed, (edition, (o, (follows, (row, tt))))) s (needed, (edition, (o, (follows, (row, tt)))))
    → r ≡ s
past-fault-decided needed edition o follows row r s e f = e ∙ sym f

-- how many rows stand before the refused one, by the contract of `rows_before`
pub rows-before-decided : (found : Verdict) (n r s : ℕ)
    → rows-before.Post tt (found, (n, tt)) r (found, (n, tt)) → rows-before.Post tt (found, (n, tt)) s (found, (n, tt)) → r ≡ s
rows-before-decided found n r s e f = e ∙ sym f

-- the first fault of n rows, by the contract of `with_repeats`
pub with-repeats-decided : (κs : Lfts 2) (found : Verdict) (resources others steps counts : Bor (List ℕ)) (n : ℕ) (r s : Verdict)
    → resources.now ≡ others.now
    → steps.now ≡ counts.now
    → with-repeats.Post κs (found, (resources, (steps, (n, tt)))) r (found, (resources, (steps, (n, tt))))
    → with-repeats.Post κs (found, (others, (counts, (n, tt)))) s (found, (others, (counts, (n, tt))))
    → r ≡ s
with-repeats-decided κs found resources others steps counts n r s same alike e f =
    e
    ∙ ap₂ (λ (rows marks : List ℕ). with_repeats found (λ row. get_or rows row 0) (λ row. get_or marks row 0) n) same alike
    ∙ sym f
