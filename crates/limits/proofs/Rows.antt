-- The rows' first fault is found in two passes: 6, 7 and 10 by row, and then 8 among the rows before the one refused. They agree
-- since a row that 10 refuses is past step 1, and so is not tested for 8.
--
-- In order: rows that pass, are refused or repeat; how far the values pass; the first fault of n rows.
-- Assumes nothing.
use mathlib.Core.Path.{◌≡◌, refl, sym, ◌∙◌}
use mathlib.Core.Bool.{Bool, true, false, true≢false}
use Prim.Native.Nat.{ℕ, ◌-◌, ◌≤◌, ◌<◌}
use native.Mathlib.Omega.{arith}
use lib.Dec.{eqb}
use borrow.Author.Tests.{eqb-true}
use Rattle.std.specs.Prelude.{Err, Ok}
use Rattle.laws.specs.Sum.{every}
use Rattle.laws.proofs.Cases.{by-test}
use Rattle.laws.proofs.Everys.{every-at}
use Rattle.values.specs.Refusals.{repeated_resource, and_then, first, Verdict, no_fault}
use Rattle.values.specs.declared.place.Offer.{Offer}
use Rattle.values.specs.declared.refusal.Refusal.TheVariants.{RepeatedResource}
use Rattle.values.proofs.Firsts.{and_then-next, and_then-refused, first-at, first-refused, first-ext}
use Rattle.repeats.specs.Repeats.{no_repeat}
use Rattle.repeats.specs.inner.Repeats.{first_repeat}
use Rattle.limits.specs.Offers.{offer_fault, repeat_fault, step_fault, rows_fault}
use Rattle.limits.specs.inner.Rows.{row_fault, values_fault, rows_before, with_repeats}
use Rattle.steps.proofs.Following.{step-first}
use Rattle.repeats.proofs.Failing.{by-failing}
use Rattle.repeats.proofs.Fresh.{repeat-untested, repeat-none, repeat-at, repeat-ext}
use Rattle.limits.proofs.Tested.{row_fault-row}
use Rattle.limits.proofs.SecondPass.{with_repeats-repeat, with_repeats-none}
use Rattle.limits.proofs.Lowest.{by_first, first-fewer}
use Rattle.values.specs.declared.refusal.Refusal.{Refusal}

-- ---- rows that pass, are refused or repeat

and_then-passed : (v : Verdict) → and_then v no_fault ≡ v
and_then-passed (Ok u) = refl
and_then-passed (Err refusal) = refl

module _ (prices_needed : Bool) (edition : ℕ) (offers : ℕ → Offer) where
  abbrev values_test : ℕ → Verdict
  values_test row = row_fault prices_needed edition (offers (row - 1)) (offers row) row

  abbrev resource : ℕ → ℕ
  resource row = (offers row).resource

  abbrev step : ℕ → ℕ
  step row = (offers row).step

  abbrev row_test : ℕ → Verdict
  row_test row =
      and_then (offer_fault prices_needed edition (offers row) row)
      (and_then (repeat_fault offers row) (step_fault (offers (row - 1)) (offers row) row))

  -- a row that is no repeat
  row-unrepeated : (row : ℕ) → no_repeat resource step row ≡ true → row_test row ≡ values_test row
  unfolding repeat_fault row_fault
  row-unrepeated row f = rw f

  -- a row that is one has step 1, so that 10 does not refuse it
  row-repeat : (row : ℕ) → no_repeat resource step row ≡ false → values_test row ≡ offer_fault prices_needed edition (offers row) row
  unfolding row_fault step_fault
  row-repeat row f =
      by-test (eqb (step row) 1)
      (λ t. rw (step-first (offers (row - 1)) (offers row) row (eqb-true (step row) 1 t)) (and_then-passed _))
      (λ t. absurd (true≢false (sym (repeat-untested resource step row t) ∙ f)))

  row-refused : (row : ℕ) (refusal : Refusal) → values_test row ≡ Err refusal → row_test row ≡ Err refusal
  row-refused row refusal t =
      by-test (no_repeat resource step row)
      (λ f. row-unrepeated row f ∙ t)
      (λ f. and_then-refused (offer_fault prices_needed edition (offers row) row) _ refusal (sym (row-repeat row f) ∙ t))

  rows_pass : (n : ℕ) → first values_test n ≡ no_fault → every (no_repeat resource step) n ≡ true → first row_test n ≡ no_fault
  rows_pass n e f = first-ext row_test values_test n (λ row l. row-unrepeated row (every-at _ n row f l)) ∙ e

  -- a repeat among rows whose values pass
  rows-repeat : (n limit row : ℕ)
      → limit ≤ n
      → first values_test limit ≡ no_fault
      → row < limit
      → every (no_repeat resource step) row ≡ true
      → no_repeat resource step row ≡ false
      → first row_test n ≡ repeated_resource row
  unfolding repeat_fault
  rows-repeat n limit row l e k f t =
      first-refused row_test n row (RepeatedResource row) (omega arith)
      (rows_pass row (first-fewer values_test limit row (omega arith) e) f)
      (and_then-next (offer_fault prices_needed edition (offers row) row) _ (sym (row-repeat row t) ∙ first-at values_test limit row e k)
      ∙ rw t)

  -- ---- how far the values pass

  abbrev limit_of : ℕ → ℕ
  limit_of n = rows_before (first values_test n) n

  -- the values pass up to a limit, and where no row before it repeats they decide
  record Limit (n limit : ℕ) : Type 0 where
    inside : limit ≤ n
    passed : first values_test limit ≡ no_fault
    decide : every (no_repeat resource step) limit ≡ true → first row_test n ≡ first values_test n

  limit-passed : (n : ℕ) → first values_test n ≡ no_fault → Limit n (limit_of n)
  limit-passed n e = rw e record { inside = omega arith; passed = e; decide = λ f. rows_pass n e f ∙ sym e }

  limit-refused : (n row : ℕ) (refusal : Refusal)
      → row < n → first values_test row ≡ no_fault → values_test row ≡ Err refusal → Limit n (limit_of n)
  limit-refused n row refusal l e t =
      let found = first-refused values_test n row refusal l e t in
      rw (found, row_fault-row prices_needed edition (offers (row - 1)) (offers row) row refusal t) record {
        inside = omega arith;
        passed = e;
        decide = λ f. first-refused row_test n row refusal l (rows_pass row e f) (row-refused row refusal t) ∙ sym found;
      }

  rows-limit : (n : ℕ) → Limit n (limit_of n)
  rows-limit n = by_first values_test n (limit-passed n) (limit-refused n)

  -- ---- the first fault of n rows

  module _ (resources steps : ℕ → ℕ) (n : ℕ)
      (agree : (row : ℕ) → row < limit_of n → resources row ≡ resource row)
      (alike : (row : ℕ) → row < limit_of n → steps row ≡ step row) where
    own : first_repeat resource step (limit_of n) ≡ first_repeat resources steps (limit_of n)
    own = sym (repeat-ext resources resource steps step (limit_of n) agree alike)

    passes_none : every (no_repeat resource step) (limit_of n) ≡ true
        → first row_test n ≡ with_repeats (first values_test n) resources steps n
    passes_none f =
        let searched = repeat-none resource step (limit_of n) (limit_of n) f (omega arith) (omega arith) ∙ own in
        (rows-limit n).decide f
        ∙ with_repeats-none (first values_test n) resources steps n (limit_of n) (limit_of n) refl searched (omega arith)

    passes-repeat : (row : ℕ)
        → row < limit_of n
        → every (no_repeat resource step) row ≡ true
        → no_repeat resource step row ≡ false
        → first row_test n ≡ with_repeats (first values_test n) resources steps n
    passes-repeat row l f t =
        let searched = repeat-at resource step (limit_of n) row f l t ∙ own in
        rows-repeat n (limit_of n) row (rows-limit n).inside (rows-limit n).passed l f t
        ∙ with_repeats-repeat (first values_test n) resources steps n (limit_of n) row refl searched l

  -- The first fault of n rows is the first by 6, 7 or 10, unless a resource number repeats in a row before it. The resource
  -- numbers and the steps may be read from anywhere that agrees with those rows.
  pub rows_fault-passes : (resources steps : ℕ → ℕ) (n : ℕ)
      → ((row : ℕ) → row < rows_before (values_fault prices_needed edition offers n) n → resources row ≡ (offers row).resource)
      → ((row : ℕ) → row < rows_before (values_fault prices_needed edition offers n) n → steps row ≡ (offers row).step)
      → rows_fault prices_needed edition offers n ≡ with_repeats (values_fault prices_needed edition offers n) resources steps n
  unfolding rows_fault values_fault
  rows_fault-passes resources steps n agree alike =
      by-failing (no_repeat resource step) (limit_of n)
      (passes_none resources steps n agree alike)
      (passes-repeat resources steps n agree alike)
