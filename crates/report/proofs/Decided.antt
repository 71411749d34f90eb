-- The contract of `put_report` leaves one text and one place behind it.
-- Assumes nothing.
use mathlib.Core.Path.{◌≡◌, sym, ◌∙◌}
use mathlib.Core.List.{List}
use Prim.Native.Nat.{ℕ}
use contract.Lifetimes.{Lfts}
use denote.Ref.{Bor, MutBor}
use Rattle.report.proofs.put_report.Reads as put-report

pub put-report-decided : (κs : Lfts 2) (out : MutBor (List ℕ)) (book : Bor (List ℕ)) (after other : MutBor (List ℕ)) (at r s : ℕ)
    → put-report.Post κs (out, (at, (book, tt))) r (after, (at, (book, tt)))
    → put-report.Post κs (out, (at, (book, tt))) s (other, (at, (book, tt)))
    → (r ≡ s) × (after.now ≡ other.now)
put-report-decided κs out book after other at r s e f = (
  e.0.written.place ∙ sym f.0.written.place,
  e.0.written.buffer ∙ sym f.0.written.buffer,
)
