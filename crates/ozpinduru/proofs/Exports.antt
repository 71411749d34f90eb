-- What each way through an exported function shows.
--
-- In order: the number of rows of an answer; parameters, refused or not; make-whole by the kind of an answer.
-- Assumes nothing.
use mathlib.Core.Path.{◌≡◌, refl, sym, ap, ap₂, ◌∙◌}
use mathlib.Core.List.{List}
use mathlib.Core.Option.{none, some}
use Prim.Native.Nat.{ℕ, ◌-◌, ◌≤◌}
use lib.ListN.{length}
use borrow.Author.Tests.{eq-eqb, ne_eqb}
use Rattle.std.specs.Prelude.{Err, Ok}
use Rattle.auction.specs.Settlement.{mills}
use Rattle.values.specs.declared.head.Parameters.{Parameters}
use Rattle.values.proofs.Firsts.{and_then-left, and_then-right}
use Rattle.limits.specs.Parameters.{missing_fault}
use Rattle.limits.specs.Given.{parameters_fault}
use Rattle.limits.specs.Ranges.{Ranged}
use Rattle.limits.proofs.Passing.{parameters-ranged}
use Rattle.curve.specs.Exact.{exact_curve_price, ExactCurvePrice}
use Rattle.curve.specs.declared.Curve.{Curve}
use Rattle.layout.specs.Read.{contents_of}
use Rattle.layout.proofs.Passing.{form-passed-length}
use Rattle.layout.proofs.Contained.{contents-count}
use Rattle.book.specs.Faults.{first_fault}
use Rattle.book.proofs.Accepted.{accepted-form}
use Rattle.region.specs.Region.{region_curve}
use Rattle.sale.specs.declared.Clearing.{Clearing}
use Rattle.call.specs.Answer.{answer_by, answer_of, call_fault, Answer, Outcome}
use Rattle.call.proofs.Calls.{passed-callable}
use Rattle.plain.specs.Structs.{no_amount}
use Rattle.plain.specs.declared.structs.OzpAnswer.{OzpAnswer}
use Rattle.plain.specs.Plotted.{points_of, points_refused, exported_curve, plotted_price, price_refused, exported_price}
use Rattle.answers.specs.Answers.{exported, exported_make_whole}
use Rattle.answers.specs.inner.Answers.{rows_stated}
use Rattle.answers.proofs.Shows.{rows-stated}
use Rattle.ozpinduru.specs.Export.{answer_to, Returned}
use Rattle.values.specs.Refusals.{Verdict, no_fault, number_of, place_of}
use Rattle.values.specs.declared.refusal.Refusal.{Refusal}

-- ---- the number of rows

-- where no test refuses, the number of offers is shown, and on a refusal none is
shown_by : (b : List ℕ) (v : Verdict) (c : Clearing) → (v ≡ no_fault → 512 ≤ length b)
    → exported (answer_by v c) (rows_stated b) ≡ exported (answer_by v c) (length (contents_of b).offers)
shown_by b (Ok u) c long = ap (exported (Ok c)) (sym (rows-stated b (long refl)) ∙ contents-count b)
shown_by b (Err refusal) c long = refl

accepted-long : (b : List ℕ) → first_fault b ≡ no_fault → 512 ≤ length b
accepted-long b e = form-passed-length b (accepted-form b e)

-- of a call with result buffers
pub shown-call : (b : List ℕ) (cleared committed rows : ℕ) (a : Answer) → a ≡ answer_to b cleared committed → rows ≡ rows_stated b
    → exported a rows ≡ exported (answer_to b cleared committed) (length (contents_of b).offers)
shown-call b cleared committed rows a e f =
    ap₂ exported e f
    ∙ shown_by b (call_fault b cleared committed) _
    (λ passed. accepted-long b (passed-callable b cleared committed passed).accepted)

-- and what the call with result buffers returns and leaves in them
pub returned-call : (b cleared committed : List ℕ) {rows : ℕ} {a : Answer} {r : OzpAnswer} {cleared' committed' : List ℕ}
    → Outcome b cleared committed a cleared' committed' → rows ≡ rows_stated b → r ≡ exported a rows → Returned b cleared committed r cleared' committed'
returned-call b cleared committed out e f = record {
  answer = f ∙ shown-call b (length cleared) (length committed) _ _ out.answered e;
  outcome = record { answered = refl; cleared-holds = out.cleared-holds; committed-holds = out.committed-holds };
}

-- of a call with none
pub shown-quote : (b : List ℕ) (rows : ℕ) (a : Answer) → a ≡ answer_of b → rows ≡ rows_stated b
    → exported a rows ≡ exported (answer_of b) (length (contents_of b).offers)
shown-quote b rows a e f = ap₂ exported e f ∙ shown_by b (first_fault b) _ (accepted-long b)

-- ---- parameters

-- parameters that pass are given and in range
passed-ranged : (p : Parameters) → parameters_fault p ≡ no_fault → Ranged p
unfolding parameters_fault
passed-ranged p e = parameters-ranged p (and_then-left (missing_fault p) _ e) (and_then-right (missing_fault p) _ e)

-- what the code made and tested: p are the parameters that were given, and v is their fault
module _ (given p : Parameters) (same : p ≡ given) (v : Verdict) (found : v ≡ parameters_fault p) where
  fault : {w : Verdict} → v ≡ w → parameters_fault given ≡ w
  fault told = sym (found ∙ ap parameters_fault same) ∙ told

  -- where they pass, they are given and in range
  pub given-ranged : v ≡ no_fault → Ranged p
  given-ranged told = passed-ranged p (sym found ∙ told)

  -- where they are refused, there are no points and no price
  pub curve-refused : (refusal : Refusal) → v ≡ Err refusal → points_refused (number_of refusal) (place_of refusal) ≡ exported_curve given
  unfolding exported_curve
  curve-refused refusal told = rw (fault told)

  pub price-refused : (k : ℕ) (refusal : Refusal) → v ≡ Err refusal → price_refused (number_of refusal) (place_of refusal) ≡ exported_price given k
  unfolding exported_price
  price-refused k refusal told = rw (fault told)

  -- the curve that the code made of them
  module _ (passed : v ≡ no_fault) (c : Curve) (made : c ≡ region_curve p) where
    curve-given : c ≡ region_curve given
    curve-given = made ∙ ap region_curve same

    -- its points, and its price at a quantity
    pub curve-made : points_of c ≡ exported_curve given
    unfolding exported_curve
    curve-made = rw (fault passed) (ap points_of curve-given)

    pub price-made : (k : ℕ) (q : ExactCurvePrice) → q ≡ exact_curve_price c k → plotted_price q ≡ exported_price given k
    unfolding exported_price
    price-made k q e = rw (fault passed) (ap plotted_price (e ∙ ap (λ (m : Curve). exact_curve_price m k) curve-given))

-- ---- make-whole

module _ (kind price cleared committed : ℕ) where
  -- with a price, with none, and with neither kind
  pub whole-priced : kind ≡ 1 → mills (some price) (committed - cleared) ≡ exported_make_whole kind price cleared committed
  unfolding exported_make_whole
  whole-priced e = rw (eq-eqb kind 1 e)

  pub whole-unpriced : kind ≡ 2 → mills none (committed - cleared) ≡ exported_make_whole kind price cleared committed
  unfolding exported_make_whole
  whole-unpriced e = rw e

  pub whole-neither : (kind ≡ 1 → ⊥) → (kind ≡ 2 → ⊥) → no_amount ≡ exported_make_whole kind price cleared committed
  unfolding exported_make_whole
  whole-neither n m = rw (ne_eqb kind 1 n, ne_eqb kind 2 m)
