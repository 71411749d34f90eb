-- The contracts of `clear` and `quote` leave one answer and one content of each buffer: any two outcomes that a contract allows
-- for the same bytes and the same contents of the buffers coincide, wherever they lie.
--
-- In order: a call of `clear`, by its own contract, which the theorems read on the call start from; what it leaves; that it is
-- decided; the answer with no buffers.
-- Assumes nothing.
use mathlib.Core.Path.{◌≡◌, sym, ap, ◌∙◌}
use mathlib.Core.List.{List}
use Prim.Native.Nat.{ℕ}
use contract.Lifetimes.{Lfts}
use denote.Ref.{Bor, MutBor}
use Rattle.call.specs.Answer.{Outcome, answer_of, Answer}
use Rattle.call.proofs.clear.Reads as clear
use Rattle.call.proofs.quote.Reads as quote

-- `clear` was called with this book and these buffers, gave this answer and left these contents of the buffers
abbrev pub Called : Lfts 3 → (book : Bor (List ℕ)) (cleared committed cleared' committed' : MutBor (List ℕ)) → Answer → Type 0
Called κs book cleared committed cleared' committed' a =
    clear.Post κs (book, (cleared, (committed, tt))) a (book, (cleared', (committed', tt)))

-- its outcome is the one of the definitions
pub call-outcome : (κs : Lfts 3) (book : Bor (List ℕ)) (cleared committed cleared' committed' : MutBor (List ℕ)) (a : Answer)
    → Called κs book cleared committed cleared' committed' a
    → Outcome book.now cleared.now committed.now a cleared'.now committed'.now
call-outcome κs book cleared committed cleared' committed' a called = called

-- two outcomes of the same book and buffers
pub outcome-same : (b cleared committed : List ℕ) (r s : Answer) (cleared₁ committed₁ cleared₂ committed₂ : List ℕ)
    → Outcome b cleared committed r cleared₁ committed₁
    → Outcome b cleared committed s cleared₂ committed₂
    → (r ≡ s) × (cleared₁ ≡ cleared₂) × (committed₁ ≡ committed₂)
outcome-same b cleared committed r s cleared₁ committed₁ cleared₂ committed₂ o p = (
  o.answered ∙ sym p.answered,
  o.cleared-holds ∙ sym p.cleared-holds,
  o.committed-holds ∙ sym p.committed-holds,
)

-- DEMAND 1. For every string of bytes, refused ones too, the call has one answer and leaves one content of each buffer.
pub clear-decided : (κs : Lfts 3) (book₁ : Bor (List ℕ)) (cleared₁ committed₁ : MutBor (List ℕ)) (book₂ : Bor (List ℕ)) (cleared₂ committed₂ : MutBor (List ℕ))
    (cleared₁' committed₁' cleared₂' committed₂' : MutBor (List ℕ)) (r s : Answer)
    → book₁.now ≡ book₂.now → cleared₁.now ≡ cleared₂.now → committed₁.now ≡ committed₂.now
    → Called κs book₁ cleared₁ committed₁ cleared₁' committed₁' r
    → Called κs book₂ cleared₂ committed₂ cleared₂' committed₂' s
    → (r ≡ s) × (cleared₁'.now ≡ cleared₂'.now) × (committed₁'.now ≡ committed₂'.now)
clear-decided κs book₁ cleared₁ committed₁ book₂ cleared₂ committed₂ cleared₁' committed₁' cleared₂' committed₂' r s e f g x y =
    outcome-same book₁.now cleared₁.now committed₁.now _ _ _ _ _ _ x (rw (e, f, g) y)

-- what a book clears with no buffers, by the contract of `quote`
pub quote-decided : (κs : Lfts 1) (book other : Bor (List ℕ)) (r s : Answer)
    → book.now ≡ other.now
    → quote.Post κs (book, tt) r (book, tt)
    → quote.Post κs (other, tt) s (other, tt)
    → r ≡ s
quote-decided κs book other r s same e f = e ∙ ap answer_of same ∙ sym f
