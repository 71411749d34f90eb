-- What is known of a book that was written, from the contract of the call that writes it.
--
-- In order: when the call refuses, and what it leaves then; the bytes that it wrote; they are a sound book, and read back they say
-- what was given; two contents never give the same bytes; a book that is read is written back.
-- A caller's numbers have the widths of their types: `OffersFit`.
-- Assumes nothing.
use mathlib.Core.Path.{◌≡◌, sym, ap, ◌∙◌}
use mathlib.Core.List.{List, ◌++◌}
use Prim.Native.Nat.{ℕ, ◌≤◌, ◌<◌}
use lib.Dec.{leb}
use lib.ListN.{length, take, drop}
use lib.Seq.{take-append_seam}
use borrow.Author.Tests.{le-leb}
use Rattle.std.specs.Prelude.{Err}
use Rattle.values.specs.Contents.{Contents}
use Rattle.values.specs.Refusals.{number_of, place_of, short_room, buffer_by, Verdict, RefusedBy, no_fault}
use Rattle.values.proofs.Firsts.{unless-true, and_then-next, and_then-left, and_then-right}
use Rattle.block.specs.Bytes.{byte}
use Rattle.layout.specs.Read.{contents_of}
use Rattle.layout.specs.Form.{form_fault}
use Rattle.book.specs.Faults.{given_fault, sound_fault}
use Rattle.encoding.specs.Encode.{encode}
use Rattle.encoding.specs.Widths.{OffersFit}
use Rattle.encoding.specs.inner.Fits.{Fits}
use Rattle.encoding.proofs.Form.{encode-form}
use Rattle.encoding.proofs.Encoded.{read-encoded, encode_injective}
use Rattle.encoding.proofs.ReadFits.{read_fits}
use Rattle.encoding.proofs.BookRead.{encode-read}
use Rattle.writer.specs.Writing.{edition_fault, count_fault, write_fault}
use Rattle.plain.specs.declared.structs.OzpText.{OzpText}
use Rattle.words.specs.Texts.{text_given, text_refused, text_by}
use Rattle.words.proofs.Answered.{refused-by, refused-as, passed-by}
use Rattle.lent.specs.Wrote.{Wrote}
use Rattle.lent.proofs.Writes.{given-passed, passed-fits}
use Rattle.values.specs.declared.refusal.Refusal.{Refusal}

-- ---- one call

module _ (c : Contents) (room : List ℕ) {r : OzpText} {room' : List ℕ} (w : Wrote c room r room') where
  -- Where the table refuses, the call does, by the same number at the same place, and leaves the room as it was.
  pub write-refused : (refusal : Refusal) → write_fault c (length room) ≡ Err refusal
      → (r ≡ text_refused (number_of refusal) (place_of refusal)) × (room' ≡ room)
  write-refused refusal e = (
    w.answered ∙ ap (λ (v : Verdict). text_by v (text_given (length (encode c)))) e,
    w.room-holds ∙ ap (λ (v : Verdict). buffer_by v room (encode c ++ drop (length (encode c)) room)) e,
  )

  -- Where the call refuses, by whatever number at whatever place, the table does, by the same.
  pub write-refused-only : (number place : ℕ) → r ≡ text_refused number place → RefusedBy (write_fault c (length room)) number place
  write-refused-only number place e =
      refused-by (write_fault c (length room)) (length (encode c)) number place (sym w.answered ∙ e)

  -- Where it answers with a refusal's number and place, the table gives that refusal.
  pub write-refused-as : (refusal : Refusal) → r ≡ text_refused (number_of refusal) (place_of refusal)
      → write_fault c (length room) ≡ Err refusal
  write-refused-as refusal e = refused-as (write_fault c (length room)) (length (encode c)) refusal (sym w.answered ∙ e)

  -- Where the table refuses nothing, the call writes.
  pub write-passed : write_fault c (length room) ≡ no_fault
      → (r ≡ text_given (length (encode c))) × (room' ≡ encode c ++ drop (length (encode c)) room)
  write-passed e = (
    w.answered ∙ ap (λ (v : Verdict). text_by v (text_given (length (encode c)))) e,
    w.room-holds ∙ ap (λ (v : Verdict). buffer_by v room (encode c ++ drop (length (encode c)) room)) e,
  )

  module _ (written : r.kind ≡ 1) where
    -- Where the call wrote, the table refuses nothing.
    pub write-passed-only : write_fault c (length room) ≡ no_fault
    write-passed-only =
        passed-by (write_fault c (length room)) (length (encode c)) (sym (ap (λ (t : OzpText). t.kind) w.answered) ∙ written)

    -- the bytes that are counted are those of the contents
    pub written-bytes : take r.bytes room' ≡ encode c
    written-bytes =
        let e = write-passed write-passed-only in
        rw (e.0, e.1) (take-append_seam (encode c) (drop (length (encode c)) room))

    module _ (fit : OffersFit c.offers) where
      pub wrote-fits : Fits c
      wrote-fits = passed-fits c (length room) write-passed-only fit

      -- Reading what was written gives back the contents, missing values missing.
      pub written_read : contents_of (take r.bytes room') ≡ c
      written_read = ap contents_of written-bytes ∙ read-encoded c wrote-fits

      -- What was written is a sound book.
      pub written-sound : sound_fault (take r.bytes room') ≡ no_fault
      unfolding sound_fault
      written-sound =
          and_then-next (form_fault (take r.bytes room')) _ (ap form_fault written-bytes ∙ encode-form c wrote-fits)
          ∙ ap given_fault written_read
          ∙ given-passed c (length room) write-passed-only

-- ---- two calls

-- Two calls that wrote the same bytes were given the same contents.
pub written_once : (c d : Contents) (room other : List ℕ) {r s : OzpText} {room' other' : List ℕ}
    (w : Wrote c room r room') (x : Wrote d other s other') → r.kind ≡ 1 → s.kind ≡ 1
    → OffersFit c.offers → OffersFit d.offers
    → take r.bytes room' ≡ take s.bytes other' → c ≡ d
written_once c d room other w x e f fit gif same =
    encode_injective c d (wrote-fits c room w e fit) (wrote-fits d other x f gif)
    (sym (written-bytes c room w e) ∙ same ∙ written-bytes d other x f)

-- ---- what was read

module _ (b : List ℕ) (bytes : (i : ℕ) → i < length b → byte b i < 256) where
  -- Of a book that passes 1 to 3, what was read is written back as the same bytes, if it is written.
  pub read-written : form_fault b ≡ no_fault → (room : List ℕ) {r : OzpText} {room' : List ℕ}
      → Wrote (contents_of b) room r room' → r.kind ≡ 1 → take r.bytes room' ≡ b
  read-written passed room w e = written-bytes (contents_of b) room w e ∙ encode-read b bytes passed

  -- Of a sound book it is written, wherever there is room.
  pub sound-written : sound_fault b ≡ no_fault → (room : List ℕ) {r : OzpText} {room' : List ℕ} → length b ≤ length room
      → Wrote (contents_of b) room r room' → (r ≡ text_given (length b)) × (room' ≡ b ++ drop (length b) room)
  unfolding sound_fault write_fault edition_fault count_fault
  sound-written sound room long w =
      let formed : form_fault b ≡ no_fault = and_then-left (form_fault b) _ sound in
      let same : encode (contents_of b) ≡ b = encode-read b bytes formed in
      let fits : Fits (contents_of b) = read_fits b bytes formed in
      let room_for : length (encode (contents_of b)) ≤ length room = rw same long in
      let passed : write_fault (contents_of b) (length room) ≡ no_fault =
      and_then-next (edition_fault (contents_of b)) _ (unless-true _ _ fits.edition)
      ∙ and_then-next (count_fault (contents_of b)) _ (unless-true _ _ (le-leb _ 600 fits.few))
      ∙ and_then-next (given_fault (contents_of b)) _ (and_then-right (form_fault b) _ sound)
      ∙ unless-true (leb (length (encode (contents_of b))) (length room)) short_room (le-leb _ _ room_for) in
      rw same at (write-passed (contents_of b) room w passed)
