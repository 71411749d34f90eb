-- The answer for a book, by its first fault: what comes before the rows decides, and then the rows.
-- Assumes nothing.
use mathlib.Core.Path.{◌≡◌, ap, sym, ◌∙◌}
use mathlib.Core.Bool.{true}
use mathlib.Core.List.{List}
use Prim.Native.Nat.{ℕ}
use lib.ListN.{length}
use Rattle.std.specs.Prelude.{Err, Ok}
use Rattle.values.specs.Contents.{offer_at}
use Rattle.values.specs.declared.head.Parameters.{Parameters}
use Rattle.values.proofs.Firsts.{and_then-next, and_then-refused}
use Rattle.limits.specs.Offers.{rows_fault}
use Rattle.layout.specs.Read.{row_offers}
use Rattle.layout.proofs.Contained.{length-row_offers, contents-edition, contents-count}
use Rattle.book.specs.Faults.{first_fault}
use Rattle.book.specs.inner.Opening.{before_rows, Opened}
use Rattle.book.proofs.Stages.{rows-own, first-before}
use Rattle.workings.specs.Works.{worked_by}
use Rattle.workings.specs.declared.works.Works.{Works}
use Rattle.values.specs.Refusals.{Verdict, no_fault}
use Rattle.values.specs.declared.refusal.Refusal.{Refusal}

pub answer-refused : (v : Verdict) (w : Works) (refusal : Refusal) → v ≡ Err refusal → Err refusal ≡ worked_by v w
answer-refused v w refusal e = rw e

pub answer-worked : (v : Verdict) (w own : Works) → v ≡ no_fault → w ≡ own → Ok w ≡ worked_by v own
answer-worked v w own e f = rw e (ap Ok f)

-- where what comes before the rows is refused, the book is
pub answer-before : (b : List ℕ) (w : Works) (refusal : Refusal) → before_rows b ≡ Err refusal
    → Err refusal ≡ worked_by (first_fault b) w
answer-before b w refusal e =
    answer-refused (first_fault b) w refusal (first-before b ∙ and_then-refused (before_rows b) _ refusal e)

-- where it passed, the rows decide
pub first_rows : (b : List ℕ) (edition : ℕ) (p : Parameters) (n : ℕ) (found : Verdict) → Opened b edition p n
    → found ≡ rows_fault true edition (offer_at (row_offers b edition 1 n)) (length (row_offers b edition 1 n)) → first_fault b ≡ found
first_rows b edition p n found o e =
    first-before b
    ∙ and_then-next (before_rows b) _ o.passed
    ∙ sym (e
    ∙ ap (rows_fault true edition (offer_at (row_offers b edition 1 n))) (length-row_offers b edition 1 n)
    ∙ rows-own true b edition n (o.edition ∙ sym (contents-edition b)) (o.rows ∙ sym (contents-count b)))
