-- The contract of each public function of this crate leaves one answer: any two that it allows for the same bytes and values
-- coincide, wherever the bytes lie.
-- Assumes nothing.
use mathlib.Core.Path.{◌≡◌, sym, ap, ◌∙◌}
use mathlib.Core.List.{List}
use Prim.Native.Nat.{ℕ}
use contract.Lifetimes.{Lfts}
use denote.Ref.{Bor}
use Rattle.plain.specs.declared.structs.OzpAnswer.{OzpAnswer}
use Rattle.answers.specs.inner.Answers.{rows_stated}
use Rattle.answers.proofs.answer.Reads as answer
use Rattle.answers.proofs.answer_refused.Reads as answer-refused
use Rattle.answers.proofs.rows_stated.Reads as rows-stated
use Rattle.call.specs.Answer.{Answer}

-- an answer, by the contract of `answer`
pub answer-decided : (a : Answer) (rows : ℕ) (r s : OzpAnswer)
    → answer.Post tt (a, (rows, tt)) r (a, (rows, tt)) → answer.Post tt (a, (rows, tt)) s (a, (rows, tt)) → r ≡ s
answer-decided a rows r s e f = e ∙ sym f

-- a refusal by any number at any place, by the contract of `answer_refused`
pub answer-refused-decided : (number place : ℕ) (r s : OzpAnswer)
    → answer-refused.Post tt (number, (place, tt)) r (number, (place, tt))
    → answer-refused.Post tt (number, (place, tt)) s (number, (place, tt))
    → r ≡ s
answer-refused-decided number place r s e f = e ∙ sym f

-- the number of offers that a book states, by the contract of `rows_stated`
pub rows-stated-decided : (κs : Lfts 1) (book other : Bor (List ℕ)) (r s : ℕ) → book.now ≡ other.now
    → rows-stated.Post κs (book, tt) r (book, tt) → rows-stated.Post κs (other, tt) s (other, tt) → r ≡ s
rows-stated-decided κs book other r s same e f = e ∙ ap rows_stated same ∙ sym f
