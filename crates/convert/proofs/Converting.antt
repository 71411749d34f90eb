-- What is done with a book that is converted, by the way that the code takes.
--
-- In order: a book that is refused; room that is too short; the other book, made in the room; what a book that is not refused has.
-- Assumes nothing.
use mathlib.Core.Path.{◌≡◌, refl, sym, ap, ◌∙◌}
use mathlib.Core.List.{List}
use Prim.Native.Nat.{ℕ, ◌≤◌, ◌<◌}
use native.Mathlib.Omega.{arith}
use lib.Dec.{leb}
use lib.ListN.{length}
use borrow.Author.Tests.{le-leb, lt-leb, leb-true}
use Rattle.std.specs.Prelude.{Err}
use Rattle.block.specs.Bytes.{byte}
use Rattle.values.specs.declared.refusal.Refusal.TheVariants.{ShortRoom}
use Rattle.values.specs.Refusals.{number_of, place_of, unless, short_room, no_fault}
use Rattle.values.proofs.Firsts.{unless-true, unless-false, unless-passed, and_then-next, and_then-refused, and_then-left, and_then-right}
use Rattle.layout.specs.Read.{contents_of}
use Rattle.layout.proofs.Passing.{form-passed-blocks}
use Rattle.book.specs.Faults.{sound_fault}
use Rattle.book.proofs.Accepted.{sound-form}
use Rattle.encoding.specs.Numbers.{zeros}
use Rattle.places.specs.inner.Put.{put}
use Rattle.convert.specs.Convert.{down_fault, converted, convert_fault}
use Rattle.convert.specs.inner.Converts.{own_fault, other_made}
use Rattle.convert.proofs.Converted.{converted-length}
use Rattle.convert.proofs.Made.{other-made}
use Rattle.convert.proofs.Told.{convert-own}
use Rattle.plain.specs.declared.structs.OzpText.{OzpText}
use Rattle.words.specs.Texts.{text_given, text_refused}
use Rattle.convert.specs.Converted.{Converted}
use Rattle.values.specs.declared.refusal.Refusal.{Refusal}

module _ (b room : List ℕ) where
  -- a book that is refused leaves the room as it was
  pub converted-refused : (refusal : Refusal) {r : OzpText} → convert_fault b (length room) ≡ Err refusal
      → r ≡ text_refused (number_of refusal) (place_of refusal) → Converted b room r room
  converted-refused refusal fault f = record { answered = rw fault f; room-holds = rw fault refl }

  -- its own fault comes before the room is looked at
  pub own-refused : (refusal : Refusal) → own_fault b ≡ Err refusal → Err refusal ≡ convert_fault b (length room)
  own-refused refusal e = sym (convert-own b (length room) ∙ and_then-refused (own_fault b) _ refusal e)

  module _ (own : own_fault b ≡ no_fault) (bytes : (i : ℕ) → i < length b → byte b i < 256) where
    sound : sound_fault b ≡ no_fault
    unfolding own_fault
    sound = and_then-left (sound_fault b) _ own

    down : down_fault (contents_of b) ≡ no_fault
    unfolding own_fault
    down = and_then-right (sound_fault b) _ own

    long : length (converted b) ≡ length b
    long = converted-length b bytes sound down

    -- 20 is decided by the book's own length
    room-decides : convert_fault b (length room) ≡ unless (leb (length b) (length room)) short_room
    room-decides = convert-own b (length room) ∙ and_then-next (own_fault b) _ own ∙ ap (λ (k : ℕ). unless (leb k (length room)) short_room) long

    -- the room is too short
    pub room-short : length room < length b → short_room ≡ convert_fault b (length room)
    room-short l = sym (room-decides ∙ unless-false _ short_room (lt-leb (length b) (length room) l))

    -- the room is long enough
    pub room-enough : length b ≤ length room → no_fault ≡ convert_fault b (length room)
    room-enough l = sym (room-decides ∙ unless-true _ short_room (le-leb (length b) (length room) l))

    -- the other book is made in the room
    pub converted-made : {r : OzpText} {cleared room' : List ℕ} → length b ≤ length room → cleared ≡ put room 0 (zeros 512) → room' ≡ other_made (contents_of b) cleared
        → r ≡ text_given (length b) → Converted b room r room'
    converted-made l e m f =
        let fault : convert_fault b (length room) ≡ no_fault = sym (room-enough l) in
        record {
          answered = rw fault (f ∙ ap text_given (sym long));
          room-holds = rw fault (m ∙ ap (other_made (contents_of b)) e ∙ other-made b bytes sound down room l);
        }

-- where nothing refuses the book, nothing does before the room is looked at
pub passed-own : (b room : List ℕ) → convert_fault b (length room) ≡ no_fault → own_fault b ≡ no_fault
passed-own b room e = and_then-left (own_fault b) _ (sym (convert-own b (length room)) ∙ e)

-- and the room holds as many bytes
pub passed-room : (b room : List ℕ) → convert_fault b (length room) ≡ no_fault → ((i : ℕ) → i < length b → byte b i < 256) → length b ≤ length room
passed-room b room e bytes =
    leb-true (length b) (length room) (unless-passed (leb (length b) (length room)) ShortRoom (sym (room-decides b room (passed-own b room e) bytes) ∙ e))

-- a book that is not refused is sound
pub own-sound : (b : List ℕ) → own_fault b ≡ no_fault → sound_fault b ≡ no_fault
unfolding own_fault
own-sound b own = and_then-left (sound_fault b) _ own

-- and has block 0
pub own_block : (b : List ℕ) → own_fault b ≡ no_fault → 512 ≤ length b
own_block b own = omega (arith, form-passed-blocks b (sound-form b (own-sound b own)))
