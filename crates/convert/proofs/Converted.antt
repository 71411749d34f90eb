-- What is known of a sound book in the other edition.
--
-- In order: where 11 passes every step is 1; what the converted book says; that it is sound, and refused by clearing as the book
-- is; that it is as long, and that converting it gives the book back.
-- Assumes nothing.
use mathlib.Core.Path.{◌≡◌, refl, sym, ap, ◌∙◌}
use mathlib.Core.List.{List}
use Prim.Native.Nat.{ℕ, ◌≤◌, ◌<◌}
use native.Mathlib.Omega.{arith}
use lib.Dec.{leb}
use lib.ListN.{length}
use borrow.Author.Tests.{le-leb, lt-leb, leb-true, eq-eqb}
use Rattle.laws.proofs.Cases.{cond-true}
use Rattle.block.specs.Bytes.{byte}
use Rattle.values.specs.Contents.{Contents, offer_at}
use Rattle.values.specs.declared.refusal.Refusal.TheVariants.{SeveralSteps}
use Rattle.values.specs.Refusals.{several_steps, short_room, unless, first, Verdict, no_fault}
use Rattle.values.specs.declared.place.Offer.{Offer}
use Rattle.values.proofs.Firsts.{unless-true, unless-false, unless-passed, and_then-next, and_then-right, first-at, first-all}
use Rattle.layout.specs.Form.{form_fault}
use Rattle.layout.specs.Read.{contents_of}
use Rattle.book.specs.Faults.{contents_fault, first_fault, given_fault, sound_fault}
use Rattle.book.proofs.Accepted.{sound-form, sound-offers}
use Rattle.book.proofs.Editions.{contents-any-edition, given-any-edition}
use Rattle.encoding.specs.Encode.{encode}
use Rattle.encoding.specs.inner.Fits.{Fits}
use Rattle.encoding.proofs.Book.{encode-length}
use Rattle.encoding.proofs.Form.{encode-form}
use Rattle.encoding.proofs.ReadFits.{read_fits}
use Rattle.encoding.proofs.BookRead.{encode-read}
use Rattle.convert.specs.Convert.{in_other, steps_fault, down_fault, converted, convert_fault}
use Rattle.convert.proofs.Other.{by-edition, other-other, other_fits, other-said}

-- the test of a row for 11
abbrev pub one_step : List Offer → ℕ → Verdict
one_step offers row = unless (leb (offer_at offers row).step 1) (several_steps row)

pub row-passed : (offers : List Offer) (row : ℕ) → (offer_at offers row).step ≤ 1 → one_step offers row ≡ no_fault
row-passed offers row l = unless-true (leb (offer_at offers row).step 1) (several_steps row) (le-leb (offer_at offers row).step 1 l)

pub row-refused : (offers : List Offer) (row : ℕ) → 2 ≤ (offer_at offers row).step → one_step offers row ≡ several_steps row
row-refused offers row l =
    let step = (offer_at offers row).step in
    let over : 1 < step = omega (arith, l) in
    unless-false (leb step 1) (several_steps row) (lt-leb step 1 over)

pub down-one : (c : Contents) → c.edition ≡ 1 → down_fault c ≡ no_fault
unfolding down_fault
down-one c one = cond-true _ _ _ (eq-eqb c.edition 1 one)

pub down-two : (c : Contents) → c.edition ≡ 2 → down_fault c ≡ first (one_step c.offers) (length c.offers)
unfolding down_fault steps_fault
down-two c two = rw two refl

module _ (b : List ℕ) (bytes : (i : ℕ) → i < length b → byte b i < 256) (sound : sound_fault b ≡ no_fault) where
  abbrev c : Contents
  c = contents_of b

  fits : Fits c
  fits = read_fits b bytes (sound-form b sound)

  -- there are at most 600 offers
  pub read-few : length c.offers ≤ 600
  read-few = fits.few

  module _ (down : down_fault (contents_of b) ≡ no_fault) where
    -- every step is 1
    pub ones : (row : ℕ) → row < length c.offers → (offer_at c.offers row).step ≡ 1
    ones row l =
        by-edition c.edition fits.edition
        (λ one. (fits.steps row l).one one)
        (λ two.
        let all : first (one_step c.offers) (length c.offers) ≡ no_fault = sym (down-two c two) ∙ down in
        let most : (offer_at c.offers row).step ≤ 1 =
        leb-true _ 1 (unless-passed _ (SeveralSteps row) (first-at (one_step c.offers) (length c.offers) row all l)) in
        omega (arith, most, (sound-offers b sound row l).step_from))

    -- It says what the book says, in the other edition.
    pub converted-said : contents_of (converted b) ≡ in_other (contents_of b)
    unfolding converted
    converted-said = other-said c fits ones

    converted-form : form_fault (converted b) ≡ no_fault
    unfolding converted
    converted-form = encode-form (in_other c) (other_fits c fits ones)

    -- It is sound.
    pub converted-sound : sound_fault (converted b) ≡ no_fault
    unfolding sound_fault in_other
    converted-sound =
        and_then-next (form_fault (converted b)) _ converted-form
        ∙ ap given_fault converted-said
        ∙ given-any-edition (in_other c) c refl refl ones
        ∙ and_then-right (form_fault b) _ sound

    -- Clearing refuses it where it refuses the book, by the same number at the same place.
    pub converted-verdict : first_fault (converted b) ≡ first_fault b
    unfolding first_fault in_other
    converted-verdict =
        and_then-next (form_fault (converted b)) _ converted-form
        ∙ ap contents_fault converted-said
        ∙ contents-any-edition (in_other c) c refl refl ones
        ∙ sym (and_then-next (form_fault b) _ (sound-form b sound))

    -- It has as many bytes.
    pub converted-length : length (converted b) ≡ length b
    unfolding converted in_other
    converted-length =
        encode-length (in_other c) ∙ sym (encode-length c) ∙ ap length (encode-read b bytes (sound-form b sound))

    -- Converting it gives the book back, byte for byte.
    pub converted-back : converted (converted b) ≡ b
    unfolding converted
    converted-back =
        ap (λ (d : Contents). encode (in_other d)) converted-said
        ∙ ap encode (other-other c fits)
        ∙ encode-read b bytes (sound-form b sound)

    -- 11 does not refuse it
    back-down : down_fault (contents_of (converted b)) ≡ no_fault
    unfolding in_other
    back-down =
        ap down_fault converted-said
        ∙ by-edition c.edition fits.edition
        (λ one.
        down-two (in_other c) (rw one refl)
        ∙ first-all (one_step c.offers) (length c.offers) (λ row l. row-passed c.offers row (omega (arith, ones row l))))
        (λ two. down-one (in_other c) (rw two refl))

    -- and nothing else does, where there is room for as many bytes.
    pub converted-back-passes : (room : ℕ) → length b ≤ room → convert_fault (converted b) room ≡ no_fault
    unfolding convert_fault
    converted-back-passes room long =
        and_then-next (sound_fault (converted b)) _ converted-sound
        ∙ and_then-next (down_fault (contents_of (converted b))) _ back-down
        ∙ unless-true (leb (length (converted (converted b))) room) short_room
        (le-leb (length (converted (converted b))) room (omega (arith, ap length converted-back, long)))
