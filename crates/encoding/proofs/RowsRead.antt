-- A block of rows that holds is what the offers that it holds are written as.
--
-- In order: what its test says; places that were read; the zeros behind them; the block.
-- Assumes nothing.
use mathlib.Core.Path.{◌≡◌, refl, sym, ap, ◌∙◌}
use mathlib.Core.Bool.{Bool, true}
use mathlib.Core.List.{List, [], ◌∷◌, ◌++◌}
use Prim.Native.Nat.{ℕ, suc, ◌+◌, ◌-◌, ◌*◌, ◌≤◌, ◌<◌}
use native.Mathlib.Omega.{arith}
use lib.ListN.{length}
use lib.Dec.{eqb, ltb}
use borrow.Author.Tests.{eqb-true}
use Rattle.laws.specs.Sum.{every}
use Rattle.laws.proofs.Cases.{and_left, and_right}
use Rattle.block.specs.Bytes.{u16_at, opens_with, blank}
use Rattle.block.specs.Check.{check_holds}
use Rattle.values.specs.Contents.{offer_at}
use Rattle.values.specs.declared.place.Offer.{Offer}
use Rattle.sections.specs.Blocks.{place_of}
use Rattle.sections.specs.Section.{rows_hold}
use Rattle.sections.specs.inner.Section.{used_only}
use Rattle.sections.proofs.Places.{places-rest}
use Rattle.layout.specs.Form.{ofrs, edition_of, offers_last, offers_section}
use Rattle.encoding.specs.Numbers.{u16_bytes, zeros}
use Rattle.encoding.specs.Encode.{place_bytes, places_bytes, rows_bytes, sealed}
use Rattle.encoding.proofs.Cuts.{part, part-onto}
use Rattle.encoding.proofs.Digits.{Bytes, u16_bytes-at}
use Rattle.encoding.proofs.Sealed.{sealed-part}
use Rattle.encoding.proofs.Parts.{letters-part, zeros-part}

-- offers that are written as the places from a byte on are written as those places, one after another
places-part : (edition : ℕ) (s : List ℕ) (at : ℕ) (os : List Offer)
    → ((i : ℕ) → i < length os → place_bytes edition (offer_at os i) ≡ part s (at + i * 32) 32)
    → places_bytes edition os ≡ part s at (length os * 32)
unfolding places_bytes
places-part edition s at [] h = refl
places-part edition s at (o ∷ os) h =
    let start : at + 0 * 32 ≡ at = omega arith in
    let size : 32 + length os * 32 ≡ suc (length os) * 32 = omega arith in
    part-onto s at 32 (length os * 32)
    (h 0 (omega arith) ∙ ap (λ (k : ℕ). part s k 32) start)
    (places-part edition s (at + 32) os
    (λ i l.
    let next : at + suc i * 32 ≡ at + 32 + i * 32 = omega arith in
    h (suc i) (omega arith) ∙ ap (λ (k : ℕ). part s k 32) next))
    ∙ ap (part s at) size

-- what the test of a block of offers says
record RowsRead (s : List ℕ) (k here : ℕ) : Type 0 where
  letters : opens_with s ofrs ≡ true
  number : u16_at s 4 ≡ k
  count : u16_at s 6 ≡ here
  before : blank s 8 20 ≡ true
  behind : blank s (28 + here * 32) ((15 - here) * 32) ≡ true

rows-read : (b s : List ℕ) (k here : ℕ) → rows_hold (offers_section b) s k here ≡ true → RowsRead s k here
unfolding rows_hold
rows-read b s k here e =
    let from-number = and_right (opens_with s ofrs) _ e in
    let from-count = and_right (eqb (u16_at s 4) k) _ from-number in
    let from-blank = and_right (eqb (u16_at s 6) here) _ from-count in
    let used : Bool = every (λ i. used_only (offers_last (edition_of b)) (ltb i here) (place_of s i)) 15 in
    let places = sym (places-rest (offers_last (edition_of b)) s here) ∙ and_right (blank s 8 20) _ from-blank in
    record {
      letters = and_left _ _ e;
      number = eqb-true (u16_at s 4) k (and_left _ _ from-number);
      count = eqb-true (u16_at s 6) here (and_left _ _ from-count);
      before = and_left _ _ from-blank;
      behind = and_right used _ places;
    }

module _ (b s : List ℕ) (k : ℕ) (os : List Offer) (whole : length s ≡ 512) (bytes : Bytes s) (few : length os ≤ 15)
    (holds : rows_hold (offers_section b) s k (length os) ≡ true)
    (places : (i : ℕ) → i < length os → place_bytes (edition_of b) (offer_at os i) ≡ place_of s i)
  where
    read : RowsRead s k (length os)
    read = rows-read b s k (length os) holds

    -- the places, and the zeros behind them
    all-places : places_bytes (edition_of b) os ++ zeros (480 - length os * 32) ≡ part s 28 480
    unfolding place_of
    all-places =
        let size : ℕ = length os * 32 in
        let rest : (15 - length os) * 32 ≡ 480 - size = omega arith in
        let all : size + (480 - size) ≡ 480 = omega arith in
        part-onto s 28 size (480 - size)
        (places-part (edition_of b) s 28 os places)
        (zeros-part s (28 + size) (480 - size) (omega arith) (rw rest at read.behind))
        ∙ ap (part s 28) all

    -- the block as far as its sums
    rows-part : rows_bytes (edition_of b) k os ≡ part s 0 508
    unfolding rows_bytes
    rows-part =
        part-onto s 0 4 504 (letters-part s 79 70 82 83 (omega arith) read.letters)
        (part-onto s 4 2 502 (ap u16_bytes (sym read.number) ∙ u16_bytes-at s bytes 4 (omega arith))
        (part-onto s 6 2 500 (ap u16_bytes (sym read.count) ∙ u16_bytes-at s bytes 6 (omega arith))
        (part-onto s 8 20 480 (zeros-part s 8 20 (omega arith) read.before) all-places)))

    -- What was read from a block of offers that holds is written as that block.
    pub rows_back : check_holds s ≡ true → sealed (rows_bytes (edition_of b) k os) ≡ s
    rows_back e = ap sealed rows-part ∙ sealed-part s whole bytes e
