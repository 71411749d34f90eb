-- What each way through the comparison shows.
--
-- In order: an accepted book's block 0 and rows lie within it; contents compared to a price; an accepted book against another; two books.
-- Assumes nothing.
use mathlib.Core.Path.{◌≡◌, refl, sym, ap, ap₂, subst, ◌∙◌}
use mathlib.Core.List.{List}
use Prim.Native.Nat.{ℕ, ◌≤◌}
use lib.ListN.{length}
use Rattle.std.specs.Prelude.{Err, Some, None, Ok}
use Rattle.std.specs.declared.option.Option.{Option}
use Rattle.values.specs.Contents.{Contents}
use Rattle.units.specs.declared.CentsPerMwDay.{CentsPerMwDay}
use Rattle.layout.specs.Form.{edition_of, offer_count}
use Rattle.layout.specs.Read.{row_offers, contents_of}
use Rattle.layout.specs.inner.Read.{Inside}
use Rattle.layout.proofs.Passing.{form-passed-length}
use Rattle.layout.proofs.Contained.{contents-offers}
use Rattle.book.specs.Faults.{first_fault}
use Rattle.book.proofs.Stages.{form-inside}
use Rattle.book.proofs.Accepted.{accepted-form}
use Rattle.sale.specs.Payment.{clearing_of}
use Rattle.sale.specs.declared.Clearing.{Clearing}
use Rattle.call.specs.Answer.{answer_of}
use Rattle.call.proofs.Outcomes.{answer-passed}
use Rattle.compare.specs.Same.{field_apart}
use Rattle.compare.specs.Comparison.{offers_compared, compared_to, against_by, comparison_of}
use Rattle.compare.specs.declared.Comparison.TheVariants.{FirstRefused, SecondRefused, NothingClears, ParametersDiffer}
use Rattle.values.specs.Refusals.{Verdict, no_fault}
use Rattle.pricing.specs.Price.{ClearingPrice}
use Rattle.values.specs.declared.refusal.Refusal.{Refusal}

module _ (b : List ℕ) (accepted : first_fault b ≡ no_fault) where
  pub accepted-long : 512 ≤ length b
  accepted-long = form-passed-length b (accepted-form b accepted)

  pub accepted-inside : {n : ℕ} → n ≡ offer_count b → Inside b 1 n
  accepted-inside e = subst (Inside b 1) (sym e) (form-inside b (accepted-form b accepted))

-- ---- contents compared to a price

module _ (p : ℕ) (c c' : Contents) (told : Option ℕ) (e : told ≡ field_apart c.parameters c'.parameters) where
  pub parameters-differ : (field : ℕ) → told ≡ Some field → ParametersDiffer field ≡ compared_to p c c'
  unfolding compared_to
  parameters-differ field some = rw (sym e ∙ some) refl

  pub offers-decide : told ≡ None → offers_compared p c.offers c'.offers ≡ compared_to p c c'
  unfolding compared_to
  offers-decide none = rw (sym e ∙ none) refl

-- the offers of two books, as many as each states
pub offers-own : (p : ℕ) (b b' : List ℕ) (n m : ℕ) → n ≡ offer_count b → m ≡ offer_count b'
    → offers_compared p (row_offers b (edition_of b) 1 n) (row_offers b' (edition_of b') 1 m) ≡ offers_compared p (contents_of b).offers (contents_of b').offers
offers-own p b b' n m e f =
    ap₂ (offers_compared p) (ap (row_offers b (edition_of b) 1) e ∙ contents-offers b) (ap (row_offers b' (edition_of b') 1) f ∙ contents-offers b')

-- ---- an accepted book against another

module _ (v : Verdict) (price : ClearingPrice) (c c' : Contents) where
  pub against-refused : (refusal : Refusal) → v ≡ Err refusal → SecondRefused refusal ≡ against_by v price c c'
  against-refused refusal e = rw e

  pub against-none : v ≡ no_fault → price ≡ None → NothingClears ≡ against_by v price c c'
  against-none e f = rw (e, f)

  pub against-priced : (p : CentsPerMwDay) → v ≡ no_fault → price ≡ Some p → compared_to p.0 c c' ≡ against_by v price c c'
  against-priced p e f = rw (e, f)

-- ---- two books

module _ (b b' : List ℕ) where
  pub first-refused : (refusal : Refusal) → answer_of b ≡ Err refusal → FirstRefused refusal ≡ comparison_of b b'
  unfolding comparison_of
  first-refused refusal e = rw e

  -- an answer with a clearing comes of an accepted book
  pub first-accepted : (k : Clearing) → answer_of b ≡ Ok k → first_fault b ≡ no_fault
  first-accepted k e = answer-passed (first_fault b) (clearing_of (contents_of b)) k (sym e)

  pub first-cleared : (k : Clearing) → answer_of b ≡ Ok k
      → against_by (first_fault b') k.price (contents_of b) (contents_of b') ≡ comparison_of b b'
  unfolding comparison_of
  first-cleared k e = rw e
