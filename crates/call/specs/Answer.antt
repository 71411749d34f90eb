-- What the call answers and what it leaves in the two result buffers, for every string of bytes.
-- Assumes nothing.
use Rattle.std.specs.Prelude.{ℕ, ◌≡◌, List, length, leb, Err, Ok}
use Rattle.values.specs.Refusals.{unless, and_then, short_buffer, buffer_by, Verdict}
use Rattle.layout.specs.Read.{contents_of}
use Rattle.book.specs.Faults.{first_fault}
use Rattle.sale.specs.Payment.{clearing_of, cleared_list, committed_list}
use Rattle.sale.specs.declared.Clearing.{Clearing}
use Rattle.std.specs.declared.result.Result.{Result}
use Rattle.values.specs.declared.refusal.Refusal.{Refusal}

-- what the call answers: the clearing, or the refusal and nothing else
abbrev pub Answer : Type 0
Answer = Result Clearing Refusal

-- 9: a result buffer has fewer entries than offers; the cleared one is looked at first
unfoldable pub buffer_fault : ℕ → ℕ → ℕ → Verdict
buffer_fault offers cleared committed =
    and_then (unless (leb offers cleared) (short_buffer 1)) (unless (leb offers committed) (short_buffer 2))

-- the first fault of a call: the book's own, then the buffers'
unfoldable pub call_fault : List ℕ → ℕ → ℕ → Verdict
call_fault b cleared committed = and_then (first_fault b) (buffer_fault (length (contents_of b).offers) cleared committed)

-- a refusal's number and place, or the clearing
abbrev pub answer_by : Verdict → Clearing → Answer
answer_by (Ok u) clearing = Ok clearing
answer_by (Err refusal) clearing = Err refusal

-- the answer where no buffer is asked for: the book's own first fault, or its clearing
abbrev pub answer_of : List ℕ → Answer
answer_of b = answer_by (first_fault b) (clearing_of (contents_of b))

-- The outcome of a call: the answer, and both buffers as it leaves them. Each row has its cleared and its committed tenths;
-- entries past the last row are not touched.
pub record Outcome (b cleared committed : List ℕ) (answer : Answer) (cleared' committed' : List ℕ) : Type 0 where
  pub answered : answer ≡ answer_by (call_fault b (length cleared) (length committed)) (clearing_of (contents_of b))
  pub cleared-holds :
      cleared' ≡ buffer_by (call_fault b (length cleared) (length committed)) cleared (cleared_list (contents_of b) cleared)
  pub committed-holds :
      committed' ≡ buffer_by (call_fault b (length cleared) (length committed)) committed (committed_list (contents_of b) committed)
