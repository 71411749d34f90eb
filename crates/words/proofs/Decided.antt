-- The contracts of texts in lent room leave one answer and one content of the room: any two outcomes that a contract allows for
-- the same bytes coincide, wherever they lie.
-- Assumes nothing.
use mathlib.Core.Path.{◌≡◌, sym, ◌∙◌}
use mathlib.Core.List.{List}
use Prim.Native.Nat.{ℕ}
use contract.Lifetimes.{Lfts}
use denote.Ref.{Bor, MutBor}
use Rattle.plain.specs.declared.structs.OzpText.{OzpText}
use Rattle.words.specs.Texts.{Told}
use Rattle.words.specs.Words.{bytes_of, words_of}
use Rattle.words.proofs.given.Reads as given
use Rattle.words.proofs.put_text.Reads as put-text
use Rattle.words.proofs.refused.Reads as refused
use Rattle.words.proofs.words.Reads as words

-- what is told of one text and one room is one thing
pub told_same : (text room : List ℕ) (r s : OzpText) (room₁ room₂ : List ℕ) → Told text room r room₁ → Told text room s room₂
    → (r ≡ s) × (room₁ ≡ room₂)
told_same text room r s room₁ room₂ x y = (x.answered ∙ sym y.answered, x.room-holds ∙ sym y.room-holds)

-- a text of so many bytes, by the contract of `given`
pub given-decided : (bytes : ℕ) (r s : OzpText) → given.Post tt (bytes, tt) r (bytes, tt) → given.Post tt (bytes, tt) s (bytes, tt) → r ≡ s
given-decided bytes r s e f = e ∙ sym f

-- a refusal, by the contract of `refused`
pub refused-decided : (number place : ℕ) (r s : OzpText)
    → refused.Post tt (number, (place, tt)) r (number, (place, tt)) → refused.Post tt (number, (place, tt)) s (number, (place, tt)) → r ≡ s
refused-decided number place r s e f = e ∙ sym f

-- a text and the room, by the contract of `put_text`
pub put-text-decided : (κs : Lfts 2) (room₁ : MutBor (List ℕ)) (text₁ : Bor (List ℕ)) (room₂ : MutBor (List ℕ)) (text₂ : Bor (List ℕ)) (room₁' room₂' : MutBor (List ℕ)) (r s : OzpText)
    → room₁.now ≡ room₂.now → text₁.now ≡ text₂.now
    → put-text.Post κs (room₁, (text₁, tt)) r (room₁', (text₁, tt))
    → put-text.Post κs (room₂, (text₂, tt)) s (room₂', (text₂, tt))
    → (r ≡ s) × (room₁'.now ≡ room₂'.now)
put-text-decided κs room₁ text₁ room₂ text₂ room₁' room₂' r s e f x y = told_same text₁.now room₁.now _ _ _ _ x (rw (e, f) y)

-- the words of a number and the room, by the contract of `words`
pub words-decided : (κs : Lfts 1) (number : ℕ) (room₁ room₂ room₁' room₂' : MutBor (List ℕ)) (r s : OzpText)
    → room₁.now ≡ room₂.now
    → words.Post κs (number, (room₁, tt)) r (number, (room₁', tt))
    → words.Post κs (number, (room₂, tt)) s (number, (room₂', tt))
    → (r ≡ s) × (room₁'.now ≡ room₂'.now)
words-decided κs number room₁ room₂ room₁' room₂' r s e x y = told_same (bytes_of (words_of number)) room₁.now _ _ _ _ x (rw e y)
