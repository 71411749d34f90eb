-- Rows that are put into a room, one after another, stand in their places.
--
-- In order: where one row more goes; all rows.
-- Assumes nothing.
use mathlib.Core.Path.{◌≡◌, refl, sym, ap, ap₂, ◌∙◌}
use mathlib.Core.Bool.{true}
use mathlib.Core.List.{List, [], ◌∷◌, ◌++◌, append_assoc, append-nil}
use Prim.Native.Nat.{ℕ, zero, suc, ◌+◌, ◌-◌, ◌*◌, ◌/◌, ◌%◌, ◌≤◌, ◌<◌}
use native.Mathlib.Omega.{arith}
use lib.ListN.{length, take, drop, length-append, length-drop, take-append-drop, drop_of_length-le}
use lib.Seq.{take_all, take-append-le, drop-append-le, drop-drop, length-take-le}
use Rattle.laws.proofs.Cases.{by_order}
use Rattle.values.specs.Contents.{offer_at}
use Rattle.values.specs.declared.place.Offer.{Offer}
use Rattle.limits.specs.Offers.{step_within}
use Rattle.encoding.specs.Numbers.{zeros}
use Rattle.encoding.specs.Encode.{place_bytes, places_bytes}
use Rattle.encoding.proofs.Digits.{length-zeros}
use Rattle.encoding.proofs.Place.{length-place}
use Rattle.encoding.proofs.Rows.{length-places}
use Rattle.places.specs.inner.Put.{put}
use Rattle.places.specs.inner.Rows.{put_row, put_rows}
use Rattle.places.proofs.Puts.{put-after, put_front}
use Rattle.writer.proofs.Raw.{fifteen, raw_block, length-raw_block, raw, raw_room, raw-room}

module _ (edition : ℕ) where
  -- ---- where one row more goes

  places-one : (offers : List Offer) (o : Offer)
      → places_bytes edition (offers ++ o ∷ []) ≡ places_bytes edition offers ++ place_bytes edition o
  unfolding places_bytes
  places-one [] o = append-nil (place_bytes edition o)
  places-one (p ∷ offers) o =
      ap (λ (s : List ℕ). place_bytes edition p ++ s) (places-one offers o)
      ∙ sym (append_assoc (place_bytes edition p) (places_bytes edition offers) (place_bytes edition o))

  abbrev place : ℕ → ℕ
  place n = n / 15 * 512 + (28 + n % 15 * 32)

  -- the next place of bytes that hold these offers, and with one offer more it holds that
  record Next (holding : List Offer → List ℕ) (offers : List Offer) (at : ℕ) : Type 0 where
    front : List ℕ
    there : List ℕ
    rest : List ℕ
    long : length front ≡ at
    whole : length there ≡ 32
    now : holding offers ≡ front ++ (there ++ rest)
    next : (o : Offer) → holding (offers ++ o ∷ []) ≡ front ++ (place_bytes edition o ++ rest)

  -- in a block that is not full
  block-next : (offers : List Offer) (g : List ℕ) → length offers < 15 → length g ≡ 512
      → Next (λ os. raw_block edition os g) offers (28 + length offers * 32)
  unfolding raw_block
  block-next offers g l whole =
      let at : ℕ = 28 + length offers * 32 in
      let opening : length (take 28 g) ≡ 28 = length-take-le 28 g (omega (arith, whole)) in
      record {
        front = take 28 g ++ places_bytes edition offers;
        there = take 32 (drop at g);
        rest = drop 32 (drop at g);
        long = length-append (take 28 g) (places_bytes edition offers) ∙ ap₂ ◌+◌ opening (length-places edition offers);
        whole = length-take-le 32 (drop at g) (omega (arith, whole, length-drop at g));
        now =
            ap (λ (s : List ℕ). take 28 g ++ (places_bytes edition offers ++ s)) (sym (take-append-drop 32 (drop at g)))
            ∙ sym (append_assoc (take 28 g) (places_bytes edition offers) _);
        next = λ o.
            let more : 28 + length (offers ++ o ∷ []) * 32 ≡ at + 32 = omega (arith, length-append offers (o ∷ [])) in
            ap₂ (λ (s t : List ℕ). take 28 g ++ (s ++ t)) (places-one offers o) (ap (λ (k : ℕ). drop k g) more ∙ sym (drop-drop 32 at g))
            ∙ simp append_assoc;
      }

  -- behind bytes that stay
  next-behind : (holding all : List Offer → List ℕ) (offers some : List Offer) (before behind : List ℕ) (k at there : ℕ)
      → length before ≡ k → k + at ≡ there
      → all offers ≡ before ++ (holding some ++ behind)
      → ((o : Offer) → all (offers ++ o ∷ []) ≡ before ++ (holding (some ++ o ∷ []) ++ behind))
      → Next holding some at → Next all offers there
  next-behind holding all offers some before behind k at there e to now next f = record {
    front = before ++ f.front;
    there = f.there;
    rest = f.rest ++ behind;
    long = length-append before f.front ∙ ap₂ ◌+◌ e f.long ∙ to;
    whole = f.whole;
    now = now ∙ rw f.now (simp append_assoc);
    next = λ o. next o ∙ rw (f.next o) (simp append_assoc);
  }

  -- in the blocks of them
  raw-next : (blocks : ℕ) (offers : List Offer) (g : List ℕ) → length offers < blocks * 15 → length g ≡ blocks * 512
      → Next (λ os. raw edition blocks os g) offers (place (length offers))
  unfolding raw
  raw-next zero offers g l whole = absurd (omega arith)
  raw-next (suc blocks) offers g l whole =
      let g₀ : List ℕ = take 512 g in
      let g' : List ℕ = drop 512 g in
      let first : length g₀ ≡ 512 = length-take-le 512 g (omega (arith, whole)) in
      by_order 15 (length offers)
      (λ many.
      let later : List Offer = drop 15 offers in
      let count : length later ≡ length offers - 15 = length-drop 15 offers in
      let further : 512 + place (length later) ≡ place (length offers) = rw count (omega arith) in
      next-behind (λ os. raw edition blocks os g') (λ os. raw edition (suc blocks) os g) offers later (raw_block edition (take 15 offers) g₀) [] 512
      (place (length later)) (place (length offers)) (length-raw_block edition (take 15 offers) g₀ (fifteen offers) first) further
      (ap (λ (s : List ℕ). raw_block edition (take 15 offers) g₀ ++ s) (sym (append-nil (raw edition blocks later g'))))
      (λ o.
      rw (take-append-le 15 offers (o ∷ []) many, drop-append-le 15 offers (o ∷ []) many)
      (ap (λ (s : List ℕ). raw_block edition (take 15 offers) g₀ ++ s) (sym (append-nil (raw edition blocks (later ++ o ∷ []) g')))))
      (raw-next blocks later g' (omega arith) (length-drop 512 g ∙ omega (arith, whole))))
      (λ few.
      let here : 0 + (28 + length offers * 32) ≡ place (length offers) = omega arith in
      next-behind (λ os. raw_block edition os g₀) (λ os. raw edition (suc blocks) os g) offers offers [] (raw edition blocks [] g') 0
      (28 + length offers * 32) (place (length offers)) refl here
      (rw (take_all 15 offers (omega arith), drop_of_length-le offers {i = 15} (omega arith)) refl)
      (λ o.
      let more : length (offers ++ o ∷ []) ≤ 15 = omega (arith, length-append offers (o ∷ [])) in
      rw (take_all 15 (offers ++ o ∷ []) more, drop_of_length-le (offers ++ o ∷ []) {i = 15} more) refl)
      (block-next offers g₀ few first))

  -- ---- all rows

  -- offers that have steps of this edition
  abbrev pub StepsWithin : List Offer → Type 0
  StepsWithin offers = (row : ℕ) → row < length offers → step_within edition (offer_at offers row).step ≡ true

  module _ (blocks : ℕ) (room : List ℕ) (fits : 512 + blocks * 512 ≤ length room) where
    abbrev book : List Offer → List ℕ
    book offers = raw_room edition blocks offers room

    abbrev held : List ℕ
    held = take (blocks * 512) (drop 512 room)

    row_one : (offers : List Offer) (o : Offer) → length offers < blocks * 15 → step_within edition o.step ≡ true
        → put_row (book offers) edition (length offers) o ≡ book (offers ++ o ∷ [])
    unfolding put_row
    row_one offers o l e =
        let n : ℕ = length offers in
        let f = next-behind (λ os. raw edition blocks os held) book offers offers (zeros 512) (drop (blocks * 512) (drop 512 room)) 512 (place n) (512 + place n)
        (length-zeros 512) refl refl (λ o. refl)
        (raw-next blocks offers held l (length-take-le (blocks * 512) (drop 512 room) (omega (arith, fits, length-drop 512 room)))) in
        let at : (1 + n / 15) * 512 + (28 + n % 15 * 32) ≡ 512 + place n + 0 = omega arith in
        rw (e, at, f.now, f.next o)
        (put-after f.front (f.there ++ f.rest) (512 + place n) 0 (place_bytes edition o) f.long
        ∙ ap (λ (s : List ℕ). f.front ++ s)
        (put_front f.there f.rest (place_bytes edition o) (f.whole ∙ sym (length-place edition o))))

    rows_more : (offers more : List Offer) → length offers + length more ≤ blocks * 15 → StepsWithin more
        → put_rows (book offers) edition (length offers) more ≡ book (offers ++ more)
    unfolding put_rows
    rows_more offers [] few within = ap book (sym (append-nil offers))
    rows_more offers (o ∷ more) few within =
        let next : suc (length offers) ≡ length (offers ++ o ∷ []) = omega (arith, length-append offers (o ∷ [])) in
        ap₂ (λ (b : List ℕ) (i : ℕ). put_rows b edition i more) (row_one offers o (omega arith) (within 0 (omega arith))) next
        ∙ rows_more (offers ++ o ∷ []) more (omega (arith, length-append offers (o ∷ []))) (λ row l. within (suc row) (omega arith))
        ∙ ap book (append_assoc offers (o ∷ []) more)

    -- rows that are put into the room, one after another, stand in their places
    pub rows-put : (offers : List Offer) → length offers ≤ blocks * 15 → StepsWithin offers
        → put_rows (put room 0 (zeros 512)) edition 0 offers ≡ book offers
    rows-put offers few within =
        ap (λ (b : List ℕ). put_rows b edition 0 offers) (raw-room edition blocks room fits) ∙ rows_more [] offers (omega arith) within
