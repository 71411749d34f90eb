-- CONTENTS THAT DIFFER IN THE EDITION ALONE are refused and cleared the same, and so are the books that say them.
--
-- In order: the first fault; the clearing, and what each row clears and commits; two calls.
-- Assumes nothing.
use mathlib.Core.Path.{◌≡◌, sym, ap, ap₂, ◌∙◌}
use mathlib.Core.List.{List}
use Prim.Native.Nat.{ℕ}
use lib.ListN.{length}
use contract.Lifetimes.{Lfts}
use denote.Ref.{Bor, MutBor}
use Rattle.values.specs.Refusals.{and_then, buffer_by, Verdict, no_fault}
use Rattle.values.specs.Contents.{Contents}
use Rattle.values.specs.declared.place.Offer.{Offer}
use Rattle.values.proofs.Firsts.{and_then-next}
use Rattle.layout.specs.Form.{form_fault}
use Rattle.layout.specs.Read.{contents_of}
use Rattle.book.specs.Faults.{contents_fault, first_fault}
use Rattle.book.proofs.Editions.{contents-any-edition}
use Rattle.sale.specs.Auction.{total, price, row_cleared, row_committed, row_make_whole, all_make_whole, daily_total, year_total}
use Rattle.sale.specs.Payment.{clearing_of, cleared_list, committed_list}
use Rattle.call.specs.Answer.{Outcome, answer_by, buffer_fault, call_fault, Answer}
use Rattle.call.specs.Steps.{SameButEdition}
use Rattle.call.proofs.Decided.{Called, call-outcome, outcome-same}

module _ (c c' : Contents) (s : SameButEdition c c') where
  -- REQUEST 06. They have the same first fault.
  pub editions-refuse-the-same : contents_fault c ≡ contents_fault c'
  editions-refuse-the-same = contents-any-edition c c' s.parameters s.offers s.step

  -- REQUEST 06. They clear the same.
  pub editions-clear-the-same : clearing_of c ≡ clearing_of c'
  unfolding clearing_of total price row_cleared row_make_whole all_make_whole daily_total year_total
  editions-clear-the-same = rw (s.parameters, s.offers)

  cleared-same : (before : List ℕ) → cleared_list c before ≡ cleared_list c' before
  unfolding cleared_list total row_cleared
  cleared-same before = rw (s.parameters, s.offers)

  committed-same : (before : List ℕ) → committed_list c before ≡ committed_list c' before
  unfolding committed_list total row_cleared row_committed
  committed-same before = rw (s.parameters, s.offers)

-- ---- two books of good form that say such contents

module _ (b b' : List ℕ) (formed : form_fault b ≡ no_fault) (formed' : form_fault b' ≡ no_fault)
    (s : SameButEdition (contents_of b) (contents_of b')) where
  first-same : first_fault b ≡ first_fault b'
  unfolding first_fault
  first-same =
      and_then-next (form_fault b) _ formed
      ∙ editions-refuse-the-same (contents_of b) (contents_of b') s
      ∙ sym (and_then-next (form_fault b') _ formed')

  fault-same : (cleared committed : ℕ) → call_fault b cleared committed ≡ call_fault b' cleared committed
  unfolding call_fault
  fault-same cleared committed =
      ap₂ and_then first-same (ap (λ (offers : List Offer). buffer_fault (length offers) cleared committed) s.offers)

  outcome-other : (cleared committed : List ℕ) (a : Answer) (cleared' committed' : List ℕ)
      → Outcome b cleared committed a cleared' committed' → Outcome b' cleared committed a cleared' committed'
  outcome-other cleared committed a cleared' committed' out =
      let fault = fault-same (length cleared) (length committed) in
      record {
        answered = out.answered ∙ ap₂ answer_by fault (editions-clear-the-same (contents_of b) (contents_of b') s);
        cleared-holds =
            out.cleared-holds
            ∙ ap₂ (λ (v : Verdict) (after : List ℕ). buffer_by v cleared after) fault (cleared-same (contents_of b) (contents_of b') s cleared);
        committed-holds =
            out.committed-holds
            ∙ ap₂ (λ (v : Verdict) (after : List ℕ). buffer_by v committed after) fault (committed-same (contents_of b) (contents_of b') s committed);
      }

-- REQUEST 06. Two calls, on books of good form whose contents differ in the edition alone and on buffers that hold the same, give
-- the same answer and leave the same in both buffers.
pub editions-answer-the-same : (κs κs' : Lfts 3) (book book' : Bor (List ℕ)) (cleared committed cleared₀ committed₀ : MutBor (List ℕ))
    (cleared₁ committed₁ cleared₂ committed₂ : MutBor (List ℕ)) (a a' : Answer)
    → form_fault book.now ≡ no_fault → form_fault book'.now ≡ no_fault → SameButEdition (contents_of book.now) (contents_of book'.now)
    → cleared.now ≡ cleared₀.now → committed.now ≡ committed₀.now
    → Called κs book cleared committed cleared₁ committed₁ a → Called κs' book' cleared₀ committed₀ cleared₂ committed₂ a'
    → (a ≡ a') × (cleared₁.now ≡ cleared₂.now) × (committed₁.now ≡ committed₂.now)
editions-answer-the-same κs κs' book book' cleared committed cleared₀ committed₀ cleared₁ committed₁ cleared₂ committed₂ a a' formed formed' s e f x y =
    let out = outcome-other book.now book'.now formed formed' s _ _ _ _ _ (call-outcome κs book cleared committed cleared₁ committed₁ a x) in
    outcome-same book'.now cleared.now committed.now a a' _ _ _ _ out (rw (e, f) y)
