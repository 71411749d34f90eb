-- The contracts of this crate leave one answer: any two that a contract allows for the same bytes coincide.
--
-- In order: `verdict` and `soundness`, wherever the books lie; what a book says before its rows.
-- Assumes nothing.
use mathlib.Core.Path.{◌≡◌, sym, ap, ◌∙◌}
use mathlib.Core.List.{List}
use Prim.Native.Nat.{ℕ}
use contract.Lifetimes.{Lfts}
use denote.Ref.{Bor}
use Rattle.book.specs.Faults.{first_fault, sound_fault}
use Rattle.book.specs.declared.Opening.{Opening}
use Rattle.book.specs.declared.Unopened.{Unopened}
use Rattle.book.proofs.opened.Reads as opened
use Rattle.book.proofs.verdict.Reads as verdict
use Rattle.book.proofs.soundness.Reads as soundness
use Rattle.std.specs.Prelude.{Ok, Err}
use Rattle.std.specs.declared.result.Result.{Result}
use Rattle.values.specs.declared.refusal.Refusal.{Refusal}
use Rattle.values.specs.Refusals.{Verdict, no_fault}

-- the first fault of a book, by the contract of `verdict`
pub verdict-decided : (κs : Lfts 1) (book other : Bor (List ℕ)) (r s : Verdict)
    → book.now ≡ other.now
    → verdict.Post κs (book, tt) r (book, tt)
    → verdict.Post κs (other, tt) s (other, tt)
    → r ≡ s
verdict-decided κs book other r s same e f = e ∙ ap first_fault same ∙ sym f

-- whether a book is sound, by the contract of `soundness`
pub soundness-decided : (κs : Lfts 1) (book other : Bor (List ℕ)) (r s : Verdict)
    → book.now ≡ other.now
    → soundness.Post κs (book, tt) r (book, tt)
    → soundness.Post κs (other, tt) s (other, tt)
    → r ≡ s
soundness-decided κs book other r s same e f = e ∙ ap sound_fault same ∙ sym f

-- what a book says before its rows, with the fault of that, by the contract of `opened`
one_fault : {fault other : Refusal} {v : Verdict} → v ≡ Err fault → v ≡ Err other → fault ≡ other
one_fault e f = cc

not_both : {fault : Refusal} {v : Verdict} → v ≡ no_fault → v ≡ Err fault → ⊥
not_both e f = cc

pub opened-decided : (κs : Lfts 1) (book : Bor (List ℕ)) (r s : Result Opening Unopened)
    → opened.Post κs (book, tt) r (book, tt) → opened.Post κs (book, tt) s (book, tt) → r ≡ s
opened-decided κs book (Ok o) (Ok p) e f = λ i.
    Ok (record {
      edition = (e.edition ∙ sym f.edition) i;
      parameters = (e.parameters ∙ sym f.parameters) i;
      rows = (e.rows ∙ sym f.rows) i;
    })
opened-decided κs book (Ok o) (Err u) e f = absurd (not_both e.passed f.refused)
opened-decided κs book (Err u) (Ok o) e f = absurd (not_both f.passed e.refused)
opened-decided κs book (Err u) (Err w) e f = λ i.
    Err (record {
      refusal = one_fault e.refused f.refused i;
      opening = record {
        edition = (e.said.edition ∙ sym f.said.edition) i;
        parameters = (e.said.parameters ∙ sym f.said.parameters) i;
        rows = (e.said.rows ∙ sym f.said.rows) i;
      };
    })
