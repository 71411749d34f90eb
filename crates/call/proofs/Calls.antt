-- What each way through the call shows.
--
-- In order: a book whose edition, parameters and number of rows have passed; the fault of a call; buffers that are long enough; what a
-- call with no fault may count on; a refusal's outcome and a clearing's; the answer with no buffers.
-- Assumes nothing.
use mathlib.Core.Path.{◌≡◌, refl, sym, ap, ap₂, subst, ◌∙◌}
use mathlib.Core.Bool.{true}
use mathlib.Core.List.{List}
use Prim.Native.Nat.{ℕ, ◌≤◌}
use native.Mathlib.Omega.{arith}
use lib.Dec.{leb}
use lib.ListN.{length}
use borrow.Author.Tests.{le-leb, leb-true}
use Rattle.std.specs.Prelude.{Err, Ok}
use Rattle.values.specs.Refusals.{unless, and_then, short_buffer, buffer_by, Verdict, no_fault}
use Rattle.values.specs.Contents.{offer_at}
use Rattle.values.specs.declared.place.Offer.{Offer}
use Rattle.values.specs.declared.head.Parameters.{Parameters}
use Rattle.values.proofs.Firsts.{and_then-next, and_then-refused, and_then-left, and_then-right, unless-true, unless-passed}
use Rattle.limits.specs.Offers.{rows_fault}
use Rattle.layout.specs.Form.{edition_of, offer_count}
use Rattle.layout.specs.Read.{row_offers, contents_of}
use Rattle.layout.specs.inner.Read.{Inside}
use Rattle.layout.proofs.Contained.{contents-edition, contents-offers, contents-count}
use Rattle.columns.specs.inner.Columns.{Columns, Blank, ColumnsRead}
use Rattle.columns.proofs.Offers.{blank-listed}
use Rattle.book.specs.Faults.{first_fault}
use Rattle.book.specs.inner.Opening.{before_rows, Opened}
use Rattle.reading.specs.inner.Rows.{RowsRead}
use Rattle.book.proofs.Stages.{first-before, before-form, form-inside}
use Rattle.book.proofs.Accepted.{accepted-clearable}
use Rattle.sale.specs.inner.Sale.{Stands, ClearedAs}
use Rattle.sale.specs.Payment.{clearing_of, cleared_list, committed_list}
use Rattle.sale.specs.declared.Clearing.{Clearing}
use Rattle.call.specs.Answer.{Outcome, answer_of, answer_by, buffer_fault, call_fault, Answer}
use Rattle.values.specs.declared.refusal.Refusal.{Refusal}
use Rattle.values.specs.declared.refusal.Refusal.TheVariants.{ShortBuffer}

-- ---- an edition, parameters and a number of rows that passed

module _ (b : List ℕ) (edition : ℕ) (p : Parameters) (n : ℕ) (o : Opened b edition p n) where
  opened-count : n ≡ offer_count b
  opened-count = o.rows ∙ sym (contents-count b)

  pub opened_inside : Inside b 1 n
  opened_inside = subst (Inside b 1) (sym opened-count) (form-inside b (before-form b o.passed))

  opened-edition : edition ≡ edition_of b
  opened-edition = o.edition ∙ sym (contents-edition b)

  opened-offers : row_offers b edition 1 n ≡ (contents_of b).offers
  opened-offers = ap₂ (λ (e m : ℕ). row_offers b e 1 m) opened-edition opened-count ∙ contents-offers b

  -- the rows decide, and then the buffers
  fault-rows : (cleared committed : ℕ) {found short : Verdict}
      → found ≡ rows_fault true edition (offer_at (row_offers b edition 1 n)) (length (row_offers b edition 1 n))
      → short ≡ buffer_fault n cleared committed → and_then found short ≡ call_fault b cleared committed
  unfolding call_fault
  fault-rows cleared committed f g =
      ap₂ and_then
      (f
      ∙ ap₂ (λ (e : ℕ) (offers : List Offer). rows_fault true e (offer_at offers) (length offers)) o.edition opened-offers
      ∙ sym (first-before b ∙ and_then-next (before_rows b) _ o.passed))
      (g ∙ ap (λ m. buffer_fault m cleared committed) o.rows)

  -- so a row is refused, or a buffer past rows that pass, or neither
  pub rows-refused : (cleared committed : ℕ) (refusal : Refusal)
      → Err refusal ≡ rows_fault true edition (offer_at (row_offers b edition 1 n)) (length (row_offers b edition 1 n))
      → Err refusal ≡ call_fault b cleared committed
  rows-refused cleared committed refusal e = fault-rows cleared committed e refl

  pub buffers-decide : (cleared committed : ℕ) (short : Verdict)
      → no_fault ≡ rows_fault true edition (offer_at (row_offers b edition 1 n)) (length (row_offers b edition 1 n))
      → short ≡ buffer_fault n cleared committed → short ≡ call_fault b cleared committed
  buffers-decide cleared committed short e f = fault-rows cleared committed e f

  -- the rows of an accepted book stand in the columns as what it says
  pub opened-stands : (before after : Columns) (found : Verdict) → first_fault b ≡ no_fault → Blank n before
      → RowsRead edition (row_offers b edition 1 n) found before after → Stands (contents_of b) p n after
  opened-stands before after found accepted blank read =
      record {
        own = o.parameters;
        count = o.rows;
        clearable = accepted-clearable b accepted;
        listed =
            blank-listed (contents_of b).offers n before after o.rows blank
            (subst (λ (offers : List Offer). ColumnsRead offers (length offers) before after) opened-offers read.read);
      }

-- ---- the fault of a call

module _ (b : List ℕ) (cleared committed : ℕ) where
  -- where what comes before the rows is refused, the call is
  pub fault-before : (refusal : Refusal) → before_rows b ≡ Err refusal → Err refusal ≡ call_fault b cleared committed
  unfolding call_fault
  fault-before refusal e =
      sym (and_then-refused (first_fault b) _ refusal (first-before b ∙ and_then-refused (before_rows b) _ refusal e))

  -- buffers that are long enough
  pub long-enough : length (contents_of b).offers ≤ cleared → length (contents_of b).offers ≤ committed
      → buffer_fault (length (contents_of b).offers) cleared committed ≡ no_fault
  unfolding buffer_fault
  long-enough h k =
      let n = length (contents_of b).offers in
      and_then-next (unless (leb n cleared) (short_buffer 1)) _
      (unless-true (leb n cleared) (short_buffer 1) (le-leb n cleared h))
      ∙ unless-true (leb n committed) (short_buffer 2) (le-leb n committed k)

  -- with buffers of 600 entries it is the book's own
  fault-by : (v : Verdict) → first_fault b ≡ v → 600 ≤ cleared → 600 ≤ committed → call_fault b cleared committed ≡ v
  unfolding call_fault
  fault-by (Ok u) e h k =
      let few = (accepted-clearable b e).few in
      and_then-next (first_fault b) _ e ∙ long-enough (omega (arith, few)) (omega (arith, few))
  fault-by (Err refusal) e h k = and_then-refused (first_fault b) _ refusal e

  pub fault-first : 600 ≤ cleared → 600 ≤ committed → call_fault b cleared committed ≡ first_fault b
  fault-first h k = fault-by (first_fault b) refl h k

-- a call with no fault: the book is accepted, and both buffers are long enough
pub record Callable (b : List ℕ) (cleared committed : ℕ) : Type 0 where
  pub accepted : first_fault b ≡ no_fault
  pub cleared-long : length (contents_of b).offers ≤ cleared
  pub committed-long : length (contents_of b).offers ≤ committed

pub passed-callable : (b : List ℕ) (cleared committed : ℕ) → call_fault b cleared committed ≡ no_fault → Callable b cleared committed
unfolding call_fault buffer_fault
passed-callable b cleared committed e =
    let n = length (contents_of b).offers in
    let buffers = and_then-right (first_fault b) _ e in
    let first = unless (leb n cleared) (short_buffer 1) in
    record {
      accepted = and_then-left (first_fault b) _ e;
      cleared-long = leb-true n cleared (unless-passed (leb n cleared) (ShortBuffer 1) (and_then-left first _ buffers));
      committed-long = leb-true n committed (unless-passed (leb n committed) (ShortBuffer 2) (and_then-right first _ buffers));
    }

-- ---- outcomes

pub outcome-refused : (b cleared committed : List ℕ) (refusal : Refusal)
    → Err refusal ≡ call_fault b (length cleared) (length committed)
    → Outcome b cleared committed (Err refusal) cleared committed
outcome-refused b cleared committed refusal e =
    record {
      answered = ap (λ w. answer_by w (clearing_of (contents_of b))) e;
      cleared-holds = ap (λ w. buffer_by w cleared (cleared_list (contents_of b) cleared)) e;
      committed-holds = ap (λ w. buffer_by w committed (committed_list (contents_of b) committed)) e;
    }

pub outcome-cleared : (b cleared committed : List ℕ) (c : Clearing) (cleared' committed' : List ℕ)
    → no_fault ≡ call_fault b (length cleared) (length committed)
    → ClearedAs (contents_of b) cleared committed c cleared' committed'
    → Outcome b cleared committed (Ok c) cleared' committed'
outcome-cleared b cleared committed c cleared' committed' g s =
    record {
      answered = ap Ok s.clearing ∙ ap (λ w. answer_by w (clearing_of (contents_of b))) g;
      cleared-holds = s.cleared-holds ∙ ap (λ w. buffer_by w cleared (cleared_list (contents_of b) cleared)) g;
      committed-holds = s.committed-holds ∙ ap (λ w. buffer_by w committed (committed_list (contents_of b) committed)) g;
    }

-- where what comes before the rows is refused, the answer with no buffers is that refusal
pub answer-before : (b : List ℕ) (refusal : Refusal) → before_rows b ≡ Err refusal
    → Err refusal ≡ answer_of b
answer-before b refusal e =
    sym (ap (λ w. answer_by w (clearing_of (contents_of b))) (first-before b ∙ and_then-refused (before_rows b) _ refusal e))

-- the answer into buffers of 600 entries is the answer with none
pub outcome-answer : (b cleared committed : List ℕ) (a : Answer) (cleared' committed' : List ℕ)
    → 600 ≤ length cleared → 600 ≤ length committed → Outcome b cleared committed a cleared' committed' → a ≡ answer_of b
outcome-answer b cleared committed a cleared' committed' h k out =
    out.answered ∙ ap (λ w. answer_by w (clearing_of (contents_of b))) (fault-first b (length cleared) (length committed) h k)
