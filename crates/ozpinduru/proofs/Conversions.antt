-- REQUEST 07. Clearing gives the same before and after a book is converted.
--
-- In order: what both books say differs in the edition alone; two calls.
-- Assumes nothing.
use mathlib.Core.Path.{◌≡◌, refl}
use mathlib.Core.List.{List}
use Prim.Native.Nat.{ℕ, ◌<◌}
use lib.ListN.{length, take}
use contract.Lifetimes.{Lfts}
use denote.Ref.{Bor, MutBor}
use Rattle.block.specs.Bytes.{byte}
use Rattle.layout.specs.Read.{contents_of}
use Rattle.book.proofs.Accepted.{sound-form}
use Rattle.call.specs.Steps.{SameButEdition}
use Rattle.call.proofs.Decided.{Called}
use Rattle.call.proofs.EitherEdition.{editions-answer-the-same}
use Rattle.convert.specs.Convert.{in_other}
use Rattle.convert.proofs.Converted.{ones}
use Rattle.plain.specs.declared.structs.OzpText.{OzpText}
use Rattle.convert.specs.Converted.{Converted}
use Rattle.convert.proofs.Between.{convert-sound, convert-down, converted-is-sound, converted-says}
use Rattle.call.specs.Answer.{Answer}

same-but-edition : (b room : List ℕ) {r : OzpText} {room' : List ℕ} (k : Converted b room r room') (done : r.kind ≡ 1)
    → ((i : ℕ) → i < length b → byte b i < 256) → SameButEdition (contents_of b) (contents_of (take r.bytes room'))
unfolding in_other
same-but-edition b room k done bytes =
    rw (converted-says b room k done bytes)
    record { parameters = refl; offers = refl; step = ones b bytes (convert-sound b room k done) (convert-down b room k done) }

-- Clearing answers the same before and after: of a book and of what it was converted to, two calls on buffers that hold the same give
-- the same answer and leave the same in both buffers.
pub converted-answers-the-same : (κs κs' : Lfts 3) (book book' : Bor (List ℕ)) (cleared committed cleared₀ committed₀ : MutBor (List ℕ))
    (cleared₁ committed₁ cleared₂ committed₂ : MutBor (List ℕ)) (a a' : Answer) (room : List ℕ) {r : OzpText} {room' : List ℕ}
    → ((i : ℕ) → i < length book.now → byte book.now i < 256)
    → Converted book.now room r room' → r.kind ≡ 1 → book'.now ≡ take r.bytes room'
    → cleared.now ≡ cleared₀.now → committed.now ≡ committed₀.now
    → Called κs book cleared committed cleared₁ committed₁ a → Called κs' book' cleared₀ committed₀ cleared₂ committed₂ a'
    → (a ≡ a') × (cleared₁.now ≡ cleared₂.now) × (committed₁.now ≡ committed₂.now)
converted-answers-the-same κs κs' book book' cleared committed cleared₀ committed₀ cleared₁ committed₁ cleared₂ committed₂ a a' room bytes k done same =
    editions-answer-the-same κs κs' book book' cleared committed cleared₀ committed₀ cleared₁ committed₁ cleared₂ committed₂ a a'
    (sound-form book.now (convert-sound book.now room k done))
    (rw same (sound-form _ (converted-is-sound book.now room k done bytes)))
    (rw same (same-but-edition book.now room k done bytes))
