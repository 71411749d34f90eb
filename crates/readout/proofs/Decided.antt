-- The contract of each public function of this crate leaves one answer: any two that it allows for the same bytes coincide,
-- wherever the books lie.
-- Assumes nothing.
use mathlib.Core.Path.{◌≡◌}
use mathlib.Core.List.{List}
use Prim.Native.Nat.{ℕ}
use contract.Lifetimes.{Lfts}
use denote.Ref.{Bor}
use lib.ListN.{length}
use Rattle.laws.proofs.Answers.{same_answer}
use Rattle.layout.specs.Form.{form_fault}
use Rattle.layout.specs.Read.{contents_of}
use Rattle.readout.specs.Read.{head_by, offers_by, row_of, earlier_row, RowOffer}
use Rattle.std.specs.declared.option.Option.{Option}
use Rattle.readout.specs.declared.Head.{Head}
use Rattle.readout.proofs.head_of.Reads as head_of
use Rattle.readout.proofs.rows_of.Reads as rows_of_lem
use Rattle.readout.proofs.offer_of.Reads as offer-of
use Rattle.readout.proofs.earlier_row.Reads as earlier-row

module _ (κs : Lfts 1) (book other : Bor (List ℕ)) (same : book.now ≡ other.now) where
  -- what block 0 states, by the contract of `head_of`
  pub head-of-decided : (r s : Option Head)
      → head_of.Post κs (book, tt) r (book, tt) → head_of.Post κs (other, tt) s (other, tt) → r ≡ s
  head-of-decided r s = same_answer (λ b. head_by (form_fault b) (contents_of b)) same

  -- how many rows can be read, by the contract of `rows_of`
  pub rows-of-decided : (r s : ℕ)
      → rows_of_lem.Post κs (book, tt) r (book, tt) → rows_of_lem.Post κs (other, tt) s (other, tt) → r ≡ s
  rows-of-decided r s e f = same_answer (λ b. length (offers_by (form_fault b) (contents_of b))) same e.0 f.0

  -- the offer of a row, by the contract of `offer_of`
  pub offer-of-decided : (row : ℕ) (r s : RowOffer)
      → offer-of.Post κs (book, (row, tt)) r (book, (row, tt))
      → offer-of.Post κs (other, (row, tt)) s (other, (row, tt))
      → r ≡ s
  offer-of-decided row r s = same_answer (λ b. row_of (offers_by (form_fault b) (contents_of b)) row) same

  -- the first row of a row's resource, by the contract of `earlier_row`
  pub earlier-row-decided : (row r s : ℕ)
      → earlier-row.Post κs (book, (row, tt)) r (book, (row, tt))
      → earlier-row.Post κs (other, (row, tt)) s (other, (row, tt))
      → r ≡ s
  earlier-row-decided row r s = same_answer (λ b. earlier_row (offers_by (form_fault b) (contents_of b)) row) same
