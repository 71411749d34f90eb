-- What each way through the reading of a book shows.
--
-- In order: its fault; what is answered; how many rows are filled in; a row that the book has; entries filled one by one.
-- Assumes nothing.
use mathlib.Core.Path.{◌≡◌, refl, sym, ap, subst, ◌∙◌}
use mathlib.Core.List.{List}
use Prim.Native.Nat.{ℕ, zero, suc, ◌+◌, ◌*◌, ◌/◌, ◌≤◌, ◌<◌}
use native.Mathlib.Omega.{arith}
use lib.Dec.{leb}
use lib.ListN.{length, set, length-set}
use borrow.Author.Tests.{le-leb, lt-leb, leb-true, eq-eqb, ne_eqb}
use Rattle.std.specs.Prelude.{Err, Ok}
use Rattle.values.specs.Place.{offer_of}
use Rattle.values.specs.Contents.{offer_at}
use Rattle.values.specs.Refusals.{unless, and_then, short_buffer, number_of, place_of, Verdict, no_fault}
use Rattle.values.specs.declared.head.Parameters.{Parameters}
use Rattle.values.specs.declared.place.Offer.{Offer}
use Rattle.values.proofs.Firsts.{and_then-next, and_then-refused, and_then-left, and_then-right, unless-true, unless-false, unless-passed}
use Rattle.sections.specs.Blocks.{row_bytes}
use Rattle.layout.specs.Form.{form_fault, edition_of, offer_count}
use Rattle.layout.specs.Read.{contents_of}
use Rattle.layout.proofs.Passing.{form-passed-length, form-passed-row}
use Rattle.layout.proofs.Contained.{contents-offers, contents-count, offer-of-row}
use Rattle.plain.specs.declared.structs.OzpContents.{OzpContents}
use Rattle.plain.specs.declared.structs.OzpRow.{OzpRow}
use Rattle.listing.specs.Listed.{offer_out, contents_out, contents_refused, contents_by, read_fault, exported_contents, rows_filled, filled_rows, row_out}
use Rattle.listing.specs.inner.Listed.{HasRow}
use Rattle.values.specs.declared.refusal.Refusal.{Refusal}
use Rattle.values.specs.declared.refusal.Refusal.TheVariants.{ShortBuffer}

-- ---- the fault

module _ (b : List ℕ) (entries : ℕ) where
  -- the number of its rows
  abbrev rows : ℕ
  rows = length (contents_of b).offers

  -- refused by 1 to 3
  pub read-formless : (refusal : Refusal) → form_fault b ≡ Err refusal → Err refusal ≡ read_fault b entries
  unfolding read_fault
  read-formless refusal e = sym (and_then-refused (form_fault b) _ refusal e)

  -- by 9, and by none
  pub read_short : form_fault b ≡ no_fault → entries < rows → Err (ShortBuffer 1) ≡ read_fault b entries
  unfolding read_fault
  read_short e l = sym (and_then-next (form_fault b) _ e ∙ unless-false (leb rows entries) (short_buffer 1) (lt-leb rows entries l))

  pub read-passed : form_fault b ≡ no_fault → rows ≤ entries → no_fault ≡ read_fault b entries
  unfolding read_fault
  read-passed e h = sym (and_then-next (form_fault b) _ e ∙ unless-true (leb rows entries) (short_buffer 1) (le-leb rows entries h))

  -- where nothing refuses, the form is right and each row has an entry
  pub passed-form : read_fault b entries ≡ no_fault → form_fault b ≡ no_fault
  unfolding read_fault
  passed-form e = and_then-left (form_fault b) _ e

  pub passed-room : read_fault b entries ≡ no_fault → rows ≤ entries
  unfolding read_fault
  passed-room e = leb-true rows entries (unless-passed (leb rows entries) (ShortBuffer 1) (and_then-right (form_fault b) _ e))

  pub passed-long : read_fault b entries ≡ no_fault → 512 ≤ length b
  passed-long e = form-passed-length b (passed-form e)

  -- ---- what is answered

  pub contents-refused : (refusal : Refusal) → read_fault b entries ≡ Err refusal
      → contents_refused (number_of refusal) (place_of refusal) ≡ exported_contents b entries
  unfolding exported_contents
  contents-refused refusal e = rw e

  pub contents-passed : read_fault b entries ≡ no_fault → (edition : ℕ) (p : Parameters) (n : ℕ)
      → edition ≡ (contents_of b).edition → p ≡ (contents_of b).parameters → n ≡ rows
      → contents_out edition p n ≡ exported_contents b entries
  unfolding exported_contents
  contents-passed e edition p n d f g = rw (e, d, f, g)

  -- ---- how many rows are filled in

  -- entry i is to hold row i, which the book has
  record Entered (i : ℕ) : Type 0 where
    has : HasRow b i
    room : rows ≤ entries

  entered_by : (v : Verdict) → read_fault b entries ≡ v → (i : ℕ)
      → i < rows_filled (contents_by v (contents_out (contents_of b).edition (contents_of b).parameters rows)) → Entered i
  unfolding rows_filled
  entered_by (Ok u) e i l = record { has = record { form = passed-form e; there = l }; room = passed-room e }
  entered_by (Err refusal) e i l = absurd (omega arith)

  entered : (i : ℕ) → i < rows_filled (exported_contents b entries) → Entered i
  unfolding exported_contents
  entered i l = entered_by (read_fault b entries) refl i l

  -- the book has that row, and the entry lies within the array
  pub entered-row : (i : ℕ) → i < rows_filled (exported_contents b entries) → HasRow b i
  entered-row i l = (entered i l).has

  pub entered-entry : (i : ℕ) → i < rows_filled (exported_contents b entries) → i < entries
  entered-entry i l = let e = entered i l in omega (arith, e.has.there, e.room)

-- by what is answered: one for each row, and none on a refusal
pub filled-given : (c : OzpContents) → c.kind ≡ 1 → c.rows ≡ rows_filled c
unfolding rows_filled
filled-given c e = rw (eq-eqb c.kind 1 e)

pub filled-refused : (c : OzpContents) → (c.kind ≡ 1 → ⊥) → 0 ≡ rows_filled c
unfolding rows_filled
filled-refused c n = rw (ne_eqb c.kind 1 n)

-- ---- a row that the book has

module _ (b : List ℕ) (row : ℕ) (has : HasRow b row) where
  counted : row < offer_count b
  counted = subst (λ (n : ℕ). row < n) (sym (contents-count b)) has.there

  -- the book has a block 0 that states its edition, and the row's block lies within it
  pub row-headed : 512 ≤ length b
  row-headed = form-passed-length b has.form

  pub row_inside : (1 + row / 15) * 512 + 512 ≤ length b
  row_inside = form-passed-row b has.form row counted

  -- its values, read from its own bytes
  pub row_read : (part : List ℕ) (edition : ℕ) (o : Offer) → part ≡ row_bytes b 1 row → edition ≡ edition_of b → o ≡ offer_of edition part
      → offer_out o ≡ row_out b row
  unfolding row_out
  row_read part edition o e d f =
      ap offer_out
      (offer-of-row b (edition_of b) 1 (offer_count b) row counted e (f ∙ ap (λ (n : ℕ). offer_of n part) d)
      ∙ ap (λ (offers : List Offer). offer_at offers row) (contents-offers b))

-- ---- entries filled one by one

module _ (f : ℕ → OzpRow) where
  pub filled_none : (xs : List OzpRow) → filled_rows f 0 xs ≡ xs
  unfolding filled_rows
  filled_none xs = refl

  pub filled_next : (i : ℕ) (xs : List OzpRow) → set (filled_rows f i xs) i (f i) ≡ filled_rows f (suc i) xs
  unfolding filled_rows
  filled_next i xs = refl

  pub length-filled : (n : ℕ) (xs : List OzpRow) → length (filled_rows f n xs) ≡ length xs
  unfolding filled_rows
  length-filled zero xs = refl
  length-filled (suc n) xs = length-set (filled_rows f n xs) n (f n) ∙ length-filled n xs
