-- What block 0 states, and the offers that can be read; of a book refused by its form neither.
--
-- In order: the head and the rows of a form that passed; a row that can be read stands in a book of good form, its block lies
-- within the book, and what its own bytes hold is its offer; the answer for a row.
-- Assumes nothing.
use mathlib.Core.Path.{◌≡◌, refl, ap, sym, ◌∙◌}
use mathlib.Core.List.{List}
use Prim.Native.Nat.{ℕ, ◌+◌, ◌*◌, ◌/◌, ◌≤◌, ◌<◌}
use native.Mathlib.Omega.{arith}
use lib.ListN.{length}
use borrow.Author.Tests.{lt-ltb, le-ltb}
use Rattle.std.specs.Prelude.{Err, Some, None, Ok}
use Rattle.laws.proofs.Cases.{cond-true, cond-false}
use Rattle.values.specs.Place.{offer_of}
use Rattle.values.specs.Contents.{Contents, offer_at}
use Rattle.values.specs.declared.head.Parameters.{Parameters}
use Rattle.values.specs.declared.place.Offer.{Offer}
use Rattle.sections.specs.Blocks.{row_bytes}
use Rattle.layout.specs.Form.{form_fault, edition_of, offer_count}
use Rattle.layout.specs.Read.{contents_of}
use Rattle.layout.proofs.Passing.{form-passed-row}
use Rattle.layout.proofs.Contained.{offer-of-row, contents-offers, contents-count}
use Rattle.readout.specs.Read.{head_by, offers_by, row_of}
use Rattle.values.specs.Refusals.{Verdict, no_fault}

-- ---- a form that passed

module _ (v : Verdict) (c : Contents) where
  pub head-stated : (edition : ℕ) (p : Parameters) (n : ℕ) → v ≡ no_fault → edition ≡ c.edition → p ≡ c.parameters
      → n ≡ length c.offers → Some (record { edition = edition; parameters = p; offers = n }) ≡ head_by v c
  head-stated edition p n e f g h = rw (e, f, g, h) refl

  pub rows-read : (n : ℕ) → v ≡ no_fault → n ≡ length c.offers → n ≡ length (offers_by v c)
  rows-read n e f = rw e f

-- of a refused form no row can be read
there-formed : (v : Verdict) (c : Contents) (row : ℕ) → row < length (offers_by v c) → v ≡ no_fault
there-formed (Ok u) c row l = refl
there-formed (Err refusal) c row l = absurd (omega (arith, l))

-- ---- a row that can be read

module _ (b : List ℕ) (row : ℕ) (there : row < length (offers_by (form_fault b) (contents_of b))) where
  formed : form_fault b ≡ no_fault
  formed = there-formed (form_fault b) (contents_of b) row there

  -- it is one of those that block 0 states
  stated : row < offer_count b
  stated =
      omega (arith, there, ap (λ (v : Verdict). length (offers_by v (contents_of b))) formed, contents-count b)

  pub there-inside : (1 + row / 15) * 512 + 512 ≤ length b
  there-inside = form-passed-row b formed row stated

  pub there-offer : {edition : ℕ} {part : List ℕ} {o : Offer} → edition ≡ edition_of b → part ≡ row_bytes b 1 row → o ≡ offer_of edition part
      → o ≡ offer_at (offers_by (form_fault b) (contents_of b)) row
  there-offer {part = part} d e f =
      offer-of-row b (edition_of b) 1 (offer_count b) row stated e (f ∙ ap (λ (n : ℕ). offer_of n part) d)
      ∙ ap (λ (offers : List Offer). offer_at offers row) (contents-offers b)
      ∙ sym (ap (λ (v : Verdict). offer_at (offers_by v (contents_of b)) row) formed)

-- ---- the answer for a row

module _ (offers : List Offer) (row : ℕ) where
  pub row-offered : (o : Offer) → row < length offers → o ≡ offer_at offers row → Some o ≡ row_of offers row
  unfolding row_of
  row-offered o l e = ap Some e ∙ sym (cond-true _ _ _ (lt-ltb row (length offers) l))

  pub row-unread : {n : ℕ} → n ≡ length offers → n ≤ row → None ≡ row_of offers row
  unfolding row_of
  row-unread e l = sym (cond-false _ _ _ (le-ltb row (length offers) (omega arith)))
