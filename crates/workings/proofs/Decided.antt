-- The contract of this crate's public function leaves one answer: any two that it allows for the same bytes coincide, wherever the
-- books lie.
-- Assumes nothing.
use mathlib.Core.Path.{◌≡◌}
use mathlib.Core.List.{List}
use Prim.Native.Nat.{ℕ}
use contract.Lifetimes.{Lfts}
use denote.Ref.{Bor}
use Rattle.laws.proofs.Answers.{same_answer}
use Rattle.layout.specs.Read.{contents_of}
use Rattle.book.specs.Faults.{first_fault}
use Rattle.workings.specs.Works.{works_of, worked_by, WorksAnswer}
use Rattle.workings.proofs.works.workings.Reads as workings

module _ (κs : Lfts 1) (book other : Bor (List ℕ)) (same : book.now ≡ other.now) where
  -- the workings of a row, a rung and a place, by the contract of `workings`
  pub workings-decided : (row rung place : ℕ) (r s : WorksAnswer)
      → workings.Post κs (book, (row, (rung, (place, tt)))) r (book, (row, (rung, (place, tt))))
      → workings.Post κs (other, (row, (rung, (place, tt)))) s (other, (row, (rung, (place, tt))))
      → r ≡ s
  workings-decided row rung place r s =
      same_answer (λ b. worked_by (first_fault b) (works_of (contents_of b) row rung place)) same
