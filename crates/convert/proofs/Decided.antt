-- The contract of converting leaves one answer and one content of the room.
-- Assumes nothing.
use mathlib.Core.Path.{◌≡◌, sym, ◌∙◌}
use mathlib.Core.List.{List}
use Prim.Native.Nat.{ℕ}
use contract.Lifetimes.{Lfts}
use denote.Ref.{Bor, MutBor}
use Rattle.plain.specs.declared.structs.OzpText.{OzpText}
use Rattle.convert.specs.Converted.{Converted}
use Rattle.convert.proofs.put_converted.Reads as put-converted

-- what a call that converts answers and leaves in the room
pub converted-same : (b room : List ℕ) (r s : OzpText) (room₁ room₂ : List ℕ) → Converted b room r room₁ → Converted b room s room₂
    → (r ≡ s) × (room₁ ≡ room₂)
converted-same b room r s room₁ room₂ x y = (x.answered ∙ sym y.answered, x.room-holds ∙ sym y.room-holds)

-- both, by the contract of `put_converted`
pub put-converted-decided : (κs : Lfts 2) (book₁ book₂ : Bor (List ℕ)) (room₁ room₂ room₁' room₂' : MutBor (List ℕ)) (r s : OzpText)
    → book₁.now ≡ book₂.now → room₁.now ≡ room₂.now
    → put-converted.Post κs (book₁, (room₁, tt)) r (book₁, (room₁', tt))
    → put-converted.Post κs (book₂, (room₂, tt)) s (book₂, (room₂', tt))
    → (r ≡ s) × (room₁'.now ≡ room₂'.now)
put-converted-decided κs book₁ book₂ room₁ room₂ room₁' room₂' r s e f x y =
    converted-same book₁.now room₁.now _ _ _ _ x (rw (e, f) y)
