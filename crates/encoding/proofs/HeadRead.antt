-- A block 0 that holds is what the edition, the parameters and the number of offers that it states are written as.
--
-- In order: a number bit by bit; what the block's test says; its marks; its parts; the block.
-- Assumes nothing.
use mathlib.Core.Path.{◌≡◌, refl, sym, ap, ◌∙◌}
use mathlib.Core.Bool.{Bool, true}
use mathlib.Core.List.{List, [], ◌∷◌}
use Prim.Native.Nat.{ℕ, ◌+◌, ◌*◌, ◌/◌, ◌%◌, ◌^◌, ◌≤◌, ◌<◌}
use native.Mathlib.Omega.{arith}
use lib.ListN.{length}
use lib.Dec.{eqb, ltb}
use borrow.Author.Tests.{ltb-true, eqb-true}
use Rattle.laws.specs.Sum.{every}
use Rattle.laws.proofs.Cases.{and_left, and_right}
use Rattle.laws.proofs.Everys.{every-at}
use Rattle.block.specs.Bytes.{byte, u32_at, opens_with, blank}
use Rattle.block.specs.Check.{check_holds}
use Rattle.values.specs.Values.{marked, value_of, absent_is_zero}
use Rattle.values.specs.Head.{parameters_of, edition_in, offers_in}
use Rattle.sections.proofs.Places.{blank-at}
use Rattle.layout.specs.Layout.{rpmb, edition_known, count_fits, head_marks_hold, head_holds}
use Rattle.encoding.specs.Numbers.{value_bytes, mark_of}
use Rattle.encoding.specs.Encode.{head_marks, head_bytes, sealed}
use Rattle.encoding.proofs.Cuts.{part, part-onto}
use Rattle.encoding.proofs.Digits.{Bytes, pair-at, u16_bytes-at, u32_bytes-at}
use Rattle.encoding.proofs.Values.{mark_of-read, value_bytes-read}
use Rattle.encoding.proofs.Sealed.{sealed-part}
use Rattle.encoding.proofs.Parts.{letters-part, zeros-part}

-- a number under 32, bit by bit
abbrev bits : ℕ → ℕ
bits m = m / 1 % 2 * 1 + m / 2 % 2 * 2 + m / 4 % 2 * 4 + m / 8 % 2 * 8 + m / 16 % 2 * 16

bits-all : (m : ℕ) → m < 32 → bits m ≡ m
unfolding every
bits-all m h = eqb-true (bits m) m (every-at (λ k. eqb (bits k) k) 32 m refl h)

module _ (s : List ℕ) where
  -- a value that is missing has zero bytes
  abbrev absent : ℕ → ℕ → Bool
  absent bit at = absent_is_zero (marked (byte s 26) bit) (u32_at s at)

  -- what the test of the marks says
  record MarksRead : Type 0 where
    under : byte s 26 < 32
    cost : absent 0 8 ≡ true
    offset : absent 1 12 ≡ true
    outage : absent 2 16 ≡ true
    requirement : absent 3 20 ≡ true
    margin : absent 4 28 ≡ true

  marks-read : head_marks_hold s ≡ true → MarksRead
  unfolding head_marks_hold
  marks-read e =
      let from-cost = and_right (ltb (byte s 26) 32) _ e in
      let from-offset = and_right (absent 0 8) _ from-cost in
      let from-outage = and_right (absent 1 12) _ from-offset in
      let from-requirement = and_right (absent 2 16) _ from-outage in
      record {
        under = ltb-true (byte s 26) 32 (and_left _ _ e);
        cost = and_left _ _ from-cost;
        offset = and_left _ _ from-offset;
        outage = and_left _ _ from-outage;
        requirement = and_left _ _ from-requirement;
        margin = and_right (absent 3 20) _ from-requirement;
      }

  -- what the test of the block says
  record HeadRead : Type 0 where
    letters : opens_with s rpmb ≡ true
    marks : MarksRead
    at-27 : byte s 27 ≡ 0
    rest : blank s 32 476 ≡ true

  head_read : (blocks : ℕ) → head_holds s blocks ≡ true → HeadRead
  unfolding head_holds
  head_read blocks e =
      let from-edition = and_right (opens_with s rpmb) _ e in
      let from-count = and_right (edition_known (edition_in s)) _ from-edition in
      let from-marks = and_right (count_fits s blocks) _ from-count in
      let from-blank = and_right (head_marks_hold s) _ from-marks in
      record {
        letters = and_left _ _ e;
        marks = marks-read (and_left _ _ from-marks);
        at-27 = blank-at s 27 1 0 (and_left _ _ from-blank) (omega arith);
        rest = and_right (blank s 27 1) _ from-blank;
      }

  module _ (whole : length s ≡ 512) (bytes : Bytes s) (blocks : ℕ) (holds : head_holds s blocks ≡ true) where
    read : HeadRead
    read = head_read blocks holds

    -- the marks that are written are those that were read
    marks-back : head_marks (parameters_of s) ≡ byte s 26
    unfolding parameters_of
    marks-back =
        (λ i. given 0 8 i + given 1 12 i + given 2 16 i + given 3 20 i + given 4 28 i)
        ∙ bits-all (byte s 26) read.marks.under
      where
        given : (bit at : ℕ)
            → mark_of bit (value_of (marked (byte s 26) bit) (u32_at s at)) ≡ byte s 26 / 2 ^ bit % 2 * 2 ^ bit
        given bit at = mark_of-read (byte s 26) bit (u32_at s at)

    -- a value's bytes
    value-part : (bit at : ℕ) → at + 4 ≤ 512 → absent bit at ≡ true
        → value_bytes (value_of (marked (byte s 26) bit) (u32_at s at)) ≡ part s at 4
    value-part bit at h e = value_bytes-read (byte s 26) bit (u32_at s at) e ∙ u32_bytes-at s bytes at (omega arith)

    -- the block as far as its sums
    head-part : head_bytes (edition_in s) (parameters_of s) (offers_in s) ≡ part s 0 508
    unfolding head_bytes parameters_of edition_in offers_in
    head-part =
        let marks = read.marks in
        part-onto s 0 4 504 (letters-part s 82 80 77 66 (omega arith) read.letters)
        (part-onto s 4 2 502 (u16_bytes-at s bytes 4 (omega arith))
        (part-onto s 6 2 500 (u16_bytes-at s bytes 6 (omega arith))
        (part-onto s 8 4 496 (value-part 0 8 (omega arith) marks.cost)
        (part-onto s 12 4 492 (value-part 1 12 (omega arith) marks.offset)
        (part-onto s 16 4 488 (value-part 2 16 (omega arith) marks.outage)
        (part-onto s 20 4 484 (value-part 3 20 (omega arith) marks.requirement)
        (part-onto s 24 2 482 (u16_bytes-at s bytes 24 (omega arith))
        (part-onto s 26 2 480 ((λ i. marks-back i ∷ sym read.at-27 i ∷ []) ∙ sym (pair-at s 26 (omega arith)))
        (part-onto s 28 4 476 (value-part 4 28 (omega arith) marks.margin)
        (zeros-part s 32 476 (omega arith) read.rest))))))))))

    -- What was read from a block 0 that holds is written as that block.
    pub head-back : check_holds s ≡ true → sealed (head_bytes (edition_in s) (parameters_of s) (offers_in s)) ≡ s
    head-back e = ap sealed head-part ∙ sealed-part s whole bytes e
