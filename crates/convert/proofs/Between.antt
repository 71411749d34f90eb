-- REQUEST 07. What is known of a book that was converted, from the contract of the call that converts it.
--
-- In order: when the call refuses, and what it leaves then; the bytes that it wrote; they are a sound book that says the same; converted
-- again they are the book that was given.
-- Assumes nothing.
use mathlib.Core.Path.{◌≡◌, sym, ap, ◌∙◌}
use mathlib.Core.List.{List, ◌++◌}
use Prim.Native.Nat.{ℕ, ◌≤◌, ◌<◌}
use lib.ListN.{length, take, drop}
use lib.Seq.{take-append_seam}
use Rattle.std.specs.Prelude.{Err}
use Rattle.block.specs.Bytes.{byte}
use Rattle.values.specs.Refusals.{number_of, place_of, buffer_by, Verdict, RefusedBy, no_fault}
use Rattle.values.proofs.Firsts.{and_then-left, and_then-right}
use Rattle.layout.specs.Read.{contents_of}
use Rattle.book.specs.Faults.{first_fault, sound_fault}
use Rattle.convert.specs.Convert.{in_other, down_fault, converted, convert_fault}
use Rattle.convert.proofs.Converted.{converted-said, converted-sound, converted-verdict, converted-length, converted-back, converted-back-passes}
use Rattle.plain.specs.declared.structs.OzpText.{OzpText}
use Rattle.words.specs.Texts.{text_given, text_refused, text_by}
use Rattle.convert.specs.Converted.{Converted}
use Rattle.words.proofs.Answered.{refused-by, refused-as, passed-by}
use Rattle.values.specs.declared.refusal.Refusal.{Refusal}

module _ (b room : List ℕ) {r : OzpText} {room' : List ℕ} (k : Converted b room r room') where
  -- Where the table refuses, the call does, by the same number at the same place, and leaves the room as it was.
  pub convert-refused : (refusal : Refusal) → convert_fault b (length room) ≡ Err refusal
      → (r ≡ text_refused (number_of refusal) (place_of refusal)) × (room' ≡ room)
  convert-refused refusal e = (
    k.answered ∙ ap (λ (v : Verdict). text_by v (text_given (length (converted b)))) e,
    k.room-holds ∙ ap (λ (v : Verdict). buffer_by v room (converted b ++ drop (length (converted b)) room)) e,
  )

  -- Where the call refuses, by whatever number at whatever place, the table does, by the same.
  pub convert-refused-only : (number place : ℕ) → r ≡ text_refused number place → RefusedBy (convert_fault b (length room)) number place
  convert-refused-only number place e =
      refused-by (convert_fault b (length room)) (length (converted b)) number place (sym k.answered ∙ e)

  -- Where it answers with a refusal's number and place, the table gives that refusal.
  pub convert-refused-as : (refusal : Refusal) → r ≡ text_refused (number_of refusal) (place_of refusal)
      → convert_fault b (length room) ≡ Err refusal
  convert-refused-as refusal e = refused-as (convert_fault b (length room)) (length (converted b)) refusal (sym k.answered ∙ e)

  -- Where the table refuses nothing, the call converts.
  pub convert-passed : convert_fault b (length room) ≡ no_fault
      → (r ≡ text_given (length (converted b))) × (room' ≡ converted b ++ drop (length (converted b)) room)
  convert-passed e = (
    k.answered ∙ ap (λ (v : Verdict). text_by v (text_given (length (converted b)))) e,
    k.room-holds ∙ ap (λ (v : Verdict). buffer_by v room (converted b ++ drop (length (converted b)) room)) e,
  )

  module _ (done : r.kind ≡ 1) where
    -- Where the call converted, the table refuses nothing:
    pub convert-passed-only : convert_fault b (length room) ≡ no_fault
    convert-passed-only =
        passed-by (convert_fault b (length room)) (length (converted b)) (sym (ap (λ (t : OzpText). t.kind) k.answered) ∙ done)

    -- the book is sound,
    pub convert-sound : sound_fault b ≡ no_fault
    unfolding convert_fault
    convert-sound = and_then-left (sound_fault b) _ convert-passed-only

    -- and 11 does not refuse it.
    pub convert-down : down_fault (contents_of b) ≡ no_fault
    unfolding convert_fault
    convert-down = and_then-left (down_fault (contents_of b)) _ (and_then-right (sound_fault b) _ convert-passed-only)

    -- the bytes that are counted are those of the book in the other edition
    pub converted-bytes : take r.bytes room' ≡ converted b
    converted-bytes =
        let e = convert-passed convert-passed-only in
        rw (e.0, e.1) (take-append_seam (converted b) (drop (length (converted b)) room))

    module _ (bytes : (i : ℕ) → i < length b → byte b i < 256) where
      -- They are as many as the book has.
      pub converted-as-long : r.bytes ≡ length b
      converted-as-long =
          ap (λ (t : OzpText). t.bytes) (convert-passed convert-passed-only).0
          ∙ converted-length b bytes convert-sound convert-down

      -- They are a sound book,
      pub converted-is-sound : sound_fault (take r.bytes room') ≡ no_fault
      converted-is-sound = ap sound_fault converted-bytes ∙ converted-sound b bytes convert-sound convert-down

      -- which says what the book says, missing values missing, in the other edition,
      pub converted-says : contents_of (take r.bytes room') ≡ in_other (contents_of b)
      converted-says = ap contents_of converted-bytes ∙ converted-said b bytes convert-sound convert-down

      -- and which clearing refuses as it refuses the book, by the same number at the same place, or not at all.
      pub converted-accepted : first_fault (take r.bytes room') ≡ first_fault b
      converted-accepted = ap first_fault converted-bytes ∙ converted-verdict b bytes convert-sound convert-down

-- Going up and down, or down and up, returns the same bytes: wherever there is room for them the converted book is converted back,
-- and nothing refuses it.
pub there_and_back : (b room again : List ℕ) {r s : OzpText} {room' again' : List ℕ}
    → ((i : ℕ) → i < length b → byte b i < 256) → Converted b room r room' → r.kind ≡ 1
    → length b ≤ length again → Converted (take r.bytes room') again s again'
    → (s ≡ text_given (length b)) × (again' ≡ b ++ drop (length b) again)
there_and_back b room again bytes k done long x =
    let sound = convert-sound b room k done in
    let down = convert-down b room k done in
    rw (converted-back b bytes sound down) at
    (convert-passed (converted b) again (rw (converted-bytes b room k done) at x) (converted-back-passes b bytes sound down (length again) long))
