-- The contract of each public function of this crate leaves one answer: any two that it allows for the same bytes coincide,
-- wherever the books lie.
--
-- In order: the first faults; the reader of rows; the section of the offers; the number of offers, and editions.
-- Assumes nothing.
use mathlib.Core.Path.{◌≡◌, sym, ◌∙◌}
use mathlib.Core.Bool.{Bool}
use mathlib.Core.List.{List}
use Prim.Native.Nat.{ℕ}
use contract.Lifetimes.{Lfts}
use denote.Ref.{Bor}
use Rattle.laws.proofs.Answers.{same_answer}
use Rattle.values.specs.Refusals.{and_then, Verdict}
use Rattle.sections.specs.Blocks.{row_bytes}
use Rattle.sections.specs.declared.section.Section.{Section}
use Rattle.layout.specs.Layout.{count_fits}
use Rattle.layout.specs.Form.{length_fault, check_fault, layout_fault, form_fault, edition_of, offer_count, offers_section, own_bytes}
use Rattle.layout.proofs.form.lengths.Reads as lengths
use Rattle.layout.proofs.form.blocks_fault.Reads as blocks-fault
use Rattle.layout.proofs.form.form.Reads as form
use Rattle.layout.proofs.head.count_fits.Reads as count-fits
use Rattle.layout.proofs.head.edition_known.Reads as edition-known
use Rattle.layout.proofs.reader.edition.Reads as edition
use Rattle.layout.proofs.reader.offer_count.Reads as offer-count
use Rattle.layout.proofs.reader.row_bytes.Reads as row-bytes
use Rattle.layout.proofs.reader.own_bytes.Reads as own-bytes
use Rattle.layout.proofs.offers.offers_section.Reads as offers-section

module _ (κs : Lfts 1) (book other : Bor (List ℕ)) (same : book.now ≡ other.now) where
  -- the fault of the length, by the contract of `lengths`
  pub lengths-decided : (r s : Verdict)
      → lengths.Post κs (book, tt) r (book, tt) → lengths.Post κs (other, tt) s (other, tt) → r ≡ s
  lengths-decided r s = same_answer length_fault same

  -- the first fault of the blocks, by the contract of `blocks_fault`
  pub blocks-fault-decided : (r s : Verdict)
      → blocks-fault.Post κs (book, tt) r (book, tt) → blocks-fault.Post κs (other, tt) s (other, tt) → r ≡ s
  blocks-fault-decided r s = same_answer (λ b. and_then (check_fault b) (layout_fault b)) same

  -- the first fault among 1 to 3, by the contract of `form`
  pub form-decided : (r s : Verdict)
      → form.Post κs (book, tt) r (book, tt) → form.Post κs (other, tt) s (other, tt) → r ≡ s
  form-decided r s = same_answer form_fault same

  -- the edition, by the contract of `edition`
  pub edition-decided : (r s : ℕ)
      → edition.Post κs (book, tt) r (book, tt) → edition.Post κs (other, tt) s (other, tt) → r ≡ s
  edition-decided r s e f = same_answer edition_of same e.0 f.0

  -- the number of offers, by the contract of `offer_count`
  pub offer-count-decided : (r s : ℕ)
      → offer-count.Post κs (book, tt) r (book, tt) → offer-count.Post κs (other, tt) s (other, tt) → r ≡ s
  offer-count-decided r s e f = same_answer offer_count same e.0 f.0

  -- a row's own bytes, by the contract of `row_bytes`
  pub row-bytes-decided : (first row : ℕ) (r s : Bor (List ℕ))
      → row-bytes.Post κs (book, (first, (row, tt))) r (book, (first, (row, tt)))
      → row-bytes.Post κs (other, (first, (row, tt))) s (other, (first, (row, tt)))
      → r.now ≡ s.now
  row-bytes-decided first row r s e f = same_answer (λ b. row_bytes b first row) same e.0 f.0

  -- what the reader hands back, by the contract of `own_bytes`
  pub own-bytes-decided : (row : ℕ) (r s : Bor (List ℕ))
      → own-bytes.Post κs (book, (row, tt)) r (book, (row, tt))
      → own-bytes.Post κs (other, (row, tt)) s (other, (row, tt))
      → r.now ≡ s.now
  own-bytes-decided row r s = same_answer (λ b. own_bytes b row) same

  -- the section of the offers, by the contract of `offers_section`
  pub offers-section-decided : (r s : Section)
      → offers-section.Post κs (book, tt) r (book, tt) → offers-section.Post κs (other, tt) s (other, tt) → r ≡ s
  offers-section-decided r s = same_answer offers_section same

-- whether the number of offers fits, by the contract of `count_fits`
pub count-fits-decided : (κs : Lfts 1) (part other : Bor (List ℕ)) (same : part.now ≡ other.now) (blocks : ℕ) (r s : Bool)
    → count-fits.Post κs (part, (blocks, tt)) r (part, (blocks, tt))
    → count-fits.Post κs (other, (blocks, tt)) s (other, (blocks, tt))
    → r ≡ s
count-fits-decided κs part other same blocks r s = same_answer (λ b. count_fits b blocks) same

-- whether a book can have an edition, by the contract of `edition_known`
pub edition-known-decided : (edition : ℕ) (r s : Bool)
    → edition-known.Post tt (edition, tt) r (edition, tt) → edition-known.Post tt (edition, tt) s (edition, tt) → r ≡ s
edition-known-decided edition r s e f = e ∙ sym f
