-- What an outcome of the call says.
--
-- In order: a call that answers with a clearing had no fault; so the clearing, the cleared buffer and the committed buffer are
-- those of the book; a call that answers with a refusal left both buffers as they were.
-- Assumes nothing.
use mathlib.Core.Path.{◌≡◌, refl, ap, ◌∙◌}
use mathlib.Core.List.{List}
use Prim.Native.Nat.{ℕ, ◌<◌}
use lib.ListN.{length, get_or}
use Rattle.std.specs.Prelude.{Err, Ok}
use Rattle.laws.proofs.Fills.{get_d-filled}
use Rattle.values.specs.Refusals.{buffer_by, Verdict, no_fault}
use Rattle.layout.specs.Read.{contents_of}
use Rattle.book.specs.Faults.{first_fault}
use Rattle.sale.specs.Auction.{row_cleared, row_committed}
use Rattle.call.specs.Answer.{Outcome, answer_by, call_fault}
use Rattle.sale.specs.Payment.{clearing_of, cleared_list, committed_list}
use Rattle.sale.specs.declared.Clearing.{Clearing}
use Rattle.call.proofs.Calls.{Callable, passed-callable}
use Rattle.values.specs.declared.refusal.Refusal.{Refusal}

-- an answer with a clearing comes of a call with no fault
pub answer-passed : (v : Verdict) (c k : Clearing) → Ok k ≡ answer_by v c → v ≡ no_fault
answer-passed (Ok u) c k e = refl
answer-passed (Err refusal) c k e = cc

pub answer-clearing : (v : Verdict) (c k : Clearing) → Ok k ≡ answer_by v c → k ≡ c
answer-clearing (Ok u) c k e = cc
answer-clearing (Err refusal) c k e = cc

buffer-passed : (v : Verdict) (before after : List ℕ) → v ≡ no_fault → buffer_by v before after ≡ after
buffer-passed (Ok u) before after e = refl
buffer-passed (Err refusal) before after e = cc

answer-refused : (v : Verdict) (c : Clearing) (refusal : Refusal) → Err refusal ≡ answer_by v c
    → v ≡ Err refusal
answer-refused (Ok u) c refusal e = cc
answer-refused (Err m) c refusal e = cc

buffer-refused : (v : Verdict) (before after : List ℕ) (refusal : Refusal) → v ≡ Err refusal
    → buffer_by v before after ≡ before
buffer-refused (Ok u) before after refusal e = cc
buffer-refused (Err m) before after refusal e = refl

-- ---- a clearing

module _ (b cleared committed : List ℕ) (k : Clearing) (cleared' committed' : List ℕ)
    (out : Outcome b cleared committed (Ok k) cleared' committed') where
  no-fault : call_fault b (length cleared) (length committed) ≡ no_fault
  no-fault = answer-passed (call_fault b (length cleared) (length committed)) (clearing_of (contents_of b)) k out.answered

  callable : Callable b (length cleared) (length committed)
  callable = passed-callable b (length cleared) (length committed) no-fault

  -- the book was accepted
  pub cleared-accepted : first_fault b ≡ no_fault
  cleared-accepted = callable.accepted

  -- the clearing is the book's
  pub cleared-clearing : k ≡ clearing_of (contents_of b)
  cleared-clearing =
      answer-clearing (call_fault b (length cleared) (length committed)) (clearing_of (contents_of b)) k out.answered

  -- each row's cleared tenths stand in the first buffer
  pub cleared-row : (row : ℕ) → row < length (contents_of b).offers → get_or cleared' row 0 ≡ row_cleared (contents_of b) row
  unfolding cleared_list
  cleared-row row l =
      ap (λ (xs : List ℕ). get_or xs row 0) (out.cleared-holds ∙ buffer-passed _ _ _ no-fault)
      ∙ get_d-filled (row_cleared (contents_of b)) (length (contents_of b).offers) cleared row 0 callable.cleared-long l

  -- each row's committed tenths stand in the second
  pub committed-row : (row : ℕ) → row < length (contents_of b).offers → get_or committed' row 0 ≡ row_committed (contents_of b) row
  unfolding committed_list
  committed-row row l =
      ap (λ (xs : List ℕ). get_or xs row 0) (out.committed-holds ∙ buffer-passed _ _ _ no-fault)
      ∙ get_d-filled (row_committed (contents_of b)) (length (contents_of b).offers) committed row 0 callable.committed-long l

-- ---- a refusal

module _ (b cleared committed : List ℕ) (refusal : Refusal) (cleared' committed' : List ℕ)
    (out : Outcome b cleared committed (Err refusal) cleared' committed') where
  -- the number and the place are those of the first fault of the call
  pub refused-first : call_fault b (length cleared) (length committed) ≡ Err refusal
  refused-first =
      answer-refused (call_fault b (length cleared) (length committed)) (clearing_of (contents_of b)) refusal out.answered

  -- both buffers hold what they held before
  pub refused-kept : (cleared' ≡ cleared) × (committed' ≡ committed)
  refused-kept = (
    out.cleared-holds ∙ buffer-refused _ _ _ refusal refused-first,
    out.committed-holds ∙ buffer-refused _ _ _ refusal refused-first,
  )
