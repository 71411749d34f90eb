-- What the answers for a book say of its rows.
--
-- In order: workings are those of an accepted book; a call with 600 entries refuses no accepted book; and a line by the entries that
-- a call left is the line of what the row clears, commits and is paid.
-- Assumes nothing.
use mathlib.Core.Path.{◌≡◌, refl, sym, ap, ap₂, subst, ◌∙◌}
use mathlib.Core.Bool.{true≢false}
use mathlib.Core.List.{List}
use mathlib.Core.Option.{Option}
use Prim.Native.Nat.{ℕ, ◌-◌, ◌≤◌, ◌<◌}
use lib.ListN.{length}
use native.Mathlib.Omega.{arith}
use Rattle.std.specs.Prelude.{Err, Ok}
use Rattle.auction.specs.Settlement.{mills}
use Rattle.layout.specs.Read.{contents_of}
use Rattle.book.specs.Faults.{first_fault}
use Rattle.book.proofs.Accepted.{accepted-form}
use Rattle.sale.specs.Auction.{price, row_cleared, row_committed, row_make_whole}
use Rattle.sale.specs.Payment.{clearing_of}
use Rattle.sale.specs.declared.Clearing.{Clearing}
use Rattle.sale.proofs.Payments.{quoted-as_price}
use Rattle.settle.specs.inner.Read.{quoted}
use Rattle.call.specs.Answer.{Outcome, answer_by, Answer}
use Rattle.call.proofs.Calls.{outcome-answer}
use Rattle.call.proofs.Outcomes.{cleared-accepted, cleared-clearing, cleared-row, committed-row}
use Rattle.workings.specs.Works.{worked_by, WorksAnswer}
use Rattle.workings.specs.declared.works.Works.{Works}
use Rattle.forms.specs.Parts.{parts_of}
use Rattle.forms.proofs.Putting.{parts_of-ext}
use Rattle.readout.specs.Facts.{row_in, rows_in}
use Rattle.rowpages.specs.Table.{line_parts, table_parts}
use Rattle.rowpages.specs.inner.Table.{line_by}
use Rattle.values.specs.Refusals.{Verdict, no_fault}
use Rattle.values.specs.declared.refusal.Refusal.{Refusal}

worked-passed : (v : Verdict) (w x : Works) → Ok x ≡ worked_by v w → v ≡ no_fault
worked-passed (Ok u) w x e = refl
worked-passed (Err refusal) w x e = cc

pub worked-accepted : (b : List ℕ) (w : Works) (a : WorksAnswer) (x : Works) → a ≡ worked_by (first_fault b) w → a ≡ Ok x
    → first_fault b ≡ no_fault
worked-accepted b w a x e f = worked-passed (first_fault b) w x (sym f ∙ e)

answer-passed : (v : Verdict) (k : Clearing) (refusal : Refusal) → v ≡ no_fault → Err refusal ≡ answer_by v k → ⊥
answer-passed (Ok u) k refusal e f = true≢false cc
answer-passed (Err m) k refusal e f = true≢false cc

module _ (b cleared committed : List ℕ) (answer : Answer) (cleared' committed' : List ℕ)
    (out : Outcome b cleared committed answer cleared' committed') where
  pub refused-not : (refusal : Refusal) → 600 ≤ length cleared → 600 ≤ length committed → first_fault b ≡ no_fault
      → answer ≡ Err refusal → ⊥
  refused-not refusal h k accepted e =
      answer-passed (first_fault b) (clearing_of (contents_of b)) refusal accepted
      (sym e ∙ outcome-answer b cleared committed answer cleared' committed' h k out)

  module _ (k : Clearing) (e : answer ≡ Ok k) (amount sum : ℕ) where
    own : Outcome b cleared committed (Ok k) cleared' committed'
    own = subst (λ (a : Answer). Outcome b cleared committed a cleared' committed') e out

    price-own : quoted k.price ≡ price (contents_of b)
    unfolding clearing_of
    price-own =
        ap (λ (c : Clearing). quoted c.price) (cleared-clearing b cleared committed k cleared' committed' own)
        ∙ quoted-as_price (price (contents_of b))

    -- the line of a row
    abbrev line : ℕ → (x y : ℕ) → Option ℕ → List (List ℕ)
    line row x y quote = line_parts row (row_in b row) x y (mills quote (y - x)) amount sum

    line-own : (row : ℕ) → row < length (contents_of b).offers
        → line_by b (quoted k.price) cleared' committed' amount sum row
        ≡ line_parts row (row_in b row) (row_cleared (contents_of b) row) (row_committed (contents_of b) row)
        (row_make_whole (contents_of b) row) amount sum
    unfolding row_committed row_make_whole
    line-own row l =
        ap₂ (λ (x y : ℕ). line row x y (quoted k.price))
        (cleared-row b cleared committed k cleared' committed' own row l)
        (committed-row b cleared committed k cleared' committed' own row l)
        ∙ ap (line row (row_cleared (contents_of b) row) (row_committed (contents_of b) row)) price-own

    -- how many rows can be read, and how many the book says
    rows-own : rows_in b ≡ length (contents_of b).offers
    rows-own = rw (accepted-form b (cleared-accepted b cleared committed k cleared' committed' own))

    -- the lines
    pub table-own : (n : ℕ) → n ≡ rows_in b
        → parts_of (line_by b (quoted k.price) cleared' committed' amount sum) n ≡ table_parts b amount sum n
    unfolding table_parts
    table-own n counted = parts_of-ext _ _ n (λ row l. line-own row (omega (arith, counted, rows-own)))
