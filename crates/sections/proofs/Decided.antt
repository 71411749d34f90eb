-- The contract of each public function of this crate leaves one answer: any two that it allows for the same bytes coincide,
-- wherever the bytes lie.
--
-- In order: values that are not given; sections.
-- Assumes nothing.
use mathlib.Core.Path.{◌≡◌, sym, ◌∙◌}
use mathlib.Core.Bool.{Bool}
use mathlib.Core.List.{List}
use Prim.Native.Nat.{ℕ, ◌/◌, ◌%◌}
use contract.Lifetimes.{Lfts}
use denote.Ref.{Bor}
use lib.Dec.{eqb}
use Rattle.laws.proofs.Answers.{same_answer}
use Rattle.block.specs.Bytes.{u32_at}
use Rattle.values.specs.Values.{absent_is_zero}
use Rattle.sections.specs.Section.{section_fault}
use Rattle.sections.specs.declared.section.Section.{Section}
use Rattle.sections.proofs.marks.absent_holds.Reads as absent-holds
use Rattle.sections.proofs.rows.section_fault.Reads as section-fault
use Rattle.sections.proofs.section.blocks_for.Reads as blocks-for
use Rattle.sections.proofs.section.rows_here.Reads as rows-here
use Rattle.values.specs.Refusals.{Verdict}

module _ (κs : Lfts 1) (book other : Bor (List ℕ)) (same : book.now ≡ other.now) where
  -- whether a value not given has zero bytes, by the contract of `absent_holds`
  pub absent-holds-decided : (at marks weight : ℕ) (r s : Bool)
      → absent-holds.Post κs (book, (at, (marks, (weight, tt)))) r (book, (at, (marks, (weight, tt))))
      → absent-holds.Post κs (other, (at, (marks, (weight, tt)))) s (other, (at, (marks, (weight, tt))))
      → r ≡ s
  absent-holds-decided at marks weight r s = same_answer (λ b. absent_is_zero (eqb (marks / weight % 2) 1) (u32_at b at)) same

  -- the first fault of a section, by the contract of `section_fault`
  pub section-fault-decided : (t : Section) (r s : Verdict)
      → section-fault.Post κs (book, (t, tt)) r (book, (t, tt))
      → section-fault.Post κs (other, (t, tt)) s (other, (t, tt))
      → r ≡ s
  section-fault-decided t r s = same_answer (λ b. section_fault b t) same

-- the number of blocks, by the contract of `blocks_for`
pub blocks-for-decided : (rows r s : ℕ)
    → blocks-for.Post tt (rows, tt) r (rows, tt) → blocks-for.Post tt (rows, tt) s (rows, tt) → r ≡ s
blocks-for-decided rows r s e f = e ∙ sym f

-- the rows of a block, by the contract of `rows_here`
pub rows-here-decided : (rows j r s : ℕ)
    → rows-here.Post tt (rows, (j, tt)) r (rows, (j, tt)) → rows-here.Post tt (rows, (j, tt)) s (rows, (j, tt)) → r ≡ s
rows-here-decided rows j r s e f = e ∙ sym f
