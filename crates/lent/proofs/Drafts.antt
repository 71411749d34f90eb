-- What the tests of a draft's rows find.
--
-- In order: how far rows pass; a repeat, told by what is kept.
-- Assumes nothing.
use mathlib.Core.Path.{◌≡◌, refl, ap, ◌∙◌}
use mathlib.Core.Bool.{false}
use mathlib.Core.List.{List}
use Prim.Native.Nat.{ℕ, ◌+◌, ◌-◌, ◌/◌, ◌≤◌, ◌<◌}
use native.Mathlib.Omega.{arith}
use lib.ListN.{length, get_or, take, drop}
use lib.Seq.{get_or-take, get_or-drop}
use borrow.Author.Tests.{lt-ltb, le-ltb}
use Rattle.std.specs.Prelude.{Err}
use Rattle.values.specs.Contents.{offer_at}
use Rattle.values.specs.declared.place.Offer.{Offer}
use Rattle.values.proofs.Firsts.{first-refused, first-stays}
use Rattle.repeats.specs.inner.Repeats.{first_repeat}
use Rattle.repeats.proofs.Fresh.{repeat-ext}
use Rattle.limits.specs.inner.Rows.{row_fault, values_fault, rows_before}
use Rattle.limits.proofs.Tested.{row_fault-row}
use Rattle.limits.proofs.Lowest.{by_first}
use Rattle.lent.specs.inner.Drafts.{repeated_in}
use Rattle.lent.specs.declared.tested.Draft.{Draft}
use Rattle.values.specs.Refusals.{place_of, repeated_resource, Verdict, no_fault}
use Rattle.values.specs.declared.refusal.Refusal.{Refusal}

-- ---- how far rows pass

module _ (edition : ℕ) (offers : List Offer) where
  abbrev test : ℕ → Verdict
  test row = row_fault false edition (offer_at offers (row - 1)) (offer_at offers row) row

  abbrev values : ℕ → Verdict
  values i = values_fault false edition (offer_at offers) i

  -- a refusal names the row that is refused
  named : (row : ℕ) (refusal : Refusal) → test row ≡ Err refusal → place_of refusal ≡ row
  named row refusal t = row_fault-row false edition (offer_at offers (row - 1)) (offer_at offers row) row refusal t

  -- a row that is refused is one of them
  pub refused-within : (n i : ℕ) → i ≤ n → rows_before (values i) n ≤ n
  unfolding values_fault
  refused-within n i l =
      by_first test i
      (λ e. rw e (omega arith))
      (λ row refusal h e t. rw (first-refused test i row refusal h e t, named row refusal t) (omega arith))

  -- where the first i rows are tested and more are left, these pass
  pub passed-before : (n i : ℕ) → i < rows_before (values i) n → values i ≡ no_fault
  unfolding values_fault
  passed-before n i l =
      by_first test i
      (λ e. e)
      (λ row refusal h e t.
      let there : i < place_of refusal = rw (first-refused test i row refusal h e t) at l in
      absurd (omega (arith, named row refusal t, there, h)))

  -- what is refused among i rows is refused among more
  pub refused-stays : (i m : ℕ) (refusal : Refusal) → i ≤ m → values i ≡ Err refusal → values m ≡ Err refusal
  unfolding values_fault
  refused-stays i m refusal l e = first-stays test i m refusal l e

-- ---- a repeat

module _ (d : Draft) (kept : List ℕ) where
  -- the first repeat, searched for in both halves of what is kept
  pub repeat-halves : (a b : List ℕ) {repeat : ℕ} → d.rows ≤ length kept / 2
      → a ≡ take (length kept / 2) kept → b ≡ drop (length kept / 2) kept
      → repeat ≡ first_repeat (λ row. get_or a row 0) (λ row. get_or b row 0) d.rows
      → repeat ≡ first_repeat (λ row. get_or kept row 0) (λ row. get_or kept (length kept / 2 + row) 0) d.rows
  repeat-halves a b l e f g =
      g
      ∙ repeat-ext (λ row. get_or a row 0) (λ row. get_or kept row 0) (λ row. get_or b row 0) (λ row. get_or kept (length kept / 2 + row) 0) d.rows
      (λ row h. ap (λ (s : List ℕ). get_or s row 0) e ∙ get_or-take (length kept / 2) kept row 0 (omega arith))
      (λ row h. ap (λ (s : List ℕ). get_or s row 0) f ∙ get_or-drop (length kept / 2) kept row 0)

  module _ {repeat : ℕ} (e : repeat ≡ first_repeat (λ row. get_or kept row 0) (λ row. get_or kept (length kept / 2 + row) 0) d.rows) where
    -- there is one
    pub repeated-here : repeat < d.rows → repeated_resource repeat ≡ repeated_in d kept
    unfolding repeated_in
    repeated-here l = rw (← e, lt-ltb repeat d.rows l) refl

    -- there is none
    pub repeated-none : d.rows ≤ repeat → d.fault ≡ repeated_in d kept
    unfolding repeated_in
    repeated-none l = rw (← e, le-ltb repeat d.rows l) refl
