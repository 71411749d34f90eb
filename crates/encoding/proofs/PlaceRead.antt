-- A place that is laid out as a used one is what the offer that it holds is written as.
--
-- In order: what its test says; its marks and its step; its last four bytes; the place.
-- Assumes nothing.
use mathlib.Core.Path.{◌≡◌, refl, sym, ap, ◌∙◌}
use mathlib.Core.Bool.{Bool, true, false, cond, ◌&&◌}
use mathlib.Core.List.{List, [], ◌∷◌}
use Prim.Native.Nat.{ℕ, ◌+◌, ◌≤◌}
use native.Mathlib.Omega.{arith}
use lib.ListN.{length}
use lib.Dec.{eqb, leb}
use borrow.Author.Tests.{leb-true, eqb-true}
use Rattle.laws.proofs.Cases.{and_left, and_right}
use Rattle.block.specs.Bytes.{byte, u32_at}
use Rattle.values.specs.Values.{marked, value_of, absent_is_zero}
use Rattle.values.specs.Place.{step_of, offer_of}
use Rattle.sections.specs.Section.{last_holds, used_holds}
use Rattle.layout.specs.Form.{offers_last}
use Rattle.encoding.specs.Numbers.{zeros, value_bytes}
use Rattle.encoding.specs.Encode.{place_marks, step_byte, place_bytes}
use Rattle.encoding.proofs.Cuts.{part, part-onto, part-whole}
use Rattle.encoding.proofs.Digits.{Bytes, pair-at, u32_bytes-at, u64_bytes-at}
use Rattle.encoding.proofs.Values.{mark_of-read, value_bytes-read}

-- the last four bytes of a place that is used
record LastBytesRead (edition : ℕ) (s : List ℕ) : Type 0 where
  marks : byte s 28 ≤ 3
  step : byte s 29 ≤ cond (eqb edition 1) 0 255
  at-30 : byte s 30 ≡ 0
  at-31 : byte s 31 ≡ 0

last-read : (edition : ℕ) (s : List ℕ) → last_holds (offers_last edition) s ≡ true → LastBytesRead edition s
unfolding last_holds
last-read edition s e =
    let step : Bool = leb (byte s 29) (cond (eqb edition 1) 0 255) in
    let lowest : Bool = leb 0 (byte s 30) in
    let highest : Bool = leb (byte s 30) 0 in
    let end : Bool = eqb (byte s 31) 0 in
    let from_step : step && (lowest && (highest && end)) ≡ true = and_right (leb (byte s 28) 3) _ e in
    let from-highest : highest && end ≡ true = and_right lowest _ (and_right step _ from_step) in
    let high : byte s 30 ≤ 0 = leb-true _ _ (and_left highest _ from-highest) in
    record {
      marks = leb-true _ _ (and_left (leb (byte s 28) 3) _ e);
      step = leb-true _ _ (and_left step _ from_step);
      at-30 = omega arith;
      at-31 = eqb-true _ _ (and_right highest _ from-highest);
    }

module _ (edition : ℕ) (s : List ℕ) (whole : length s ≡ 32) (bytes : Bytes s) (used : used_holds (offers_last edition) s ≡ true) where
  last : LastBytesRead edition s
  unfolding used_holds
  last = last-read edition s (and_left (last_holds (offers_last edition) s) _ used)

  -- a value that is missing has zero bytes
  abbrev absent : ℕ → ℕ → Bool
  absent bit at = absent_is_zero (marked (byte s 28) bit) (u32_at s at)

  both-absent : absent 0 8 && absent 1 16 ≡ true
  unfolding used_holds
  both-absent = and_right (last_holds (offers_last edition) s) _ used

  -- so the bytes of a value are those that were read
  value-part : (bit at : ℕ) → at + 4 ≤ 32 → absent bit at ≡ true
      → value_bytes (value_of (marked (byte s 28) bit) (u32_at s at)) ≡ part s at 4
  value-part bit at h e = value_bytes-read (byte s 28) bit (u32_at s at) e ∙ u32_bytes-at s bytes at (omega arith)

  -- the marks that are written are those that were read
  marks-read : place_marks (offer_of edition s) ≡ byte s 28
  unfolding offer_of
  marks-read =
      omega (arith, last.marks, mark_of-read (byte s 28) 0 (u32_at s 8), mark_of-read (byte s 28) 1 (u32_at s 16))

  -- and so is the step
  step-read : step_byte edition (step_of edition (byte s 29)) ≡ byte s 29
  step-read = own (eqb edition 1) last.step
    where
      own : (t : Bool) → byte s 29 ≤ cond t 0 255 → cond t 0 (cond t 1 (byte s 29)) ≡ byte s 29
      own true most = omega arith
      own false most = refl

  last-four : place_marks (offer_of edition s) ∷ step_byte edition (offer_of edition s).step ∷ zeros 2 ≡ part s 28 4
  unfolding zeros offer_of
  last-four =
      (λ i. marks-read i ∷ step-read i ∷ sym last.at-30 i ∷ sym last.at-31 i ∷ [])
      ∙ part-onto s 28 2 2 (sym (pair-at s 28 (omega arith))) (sym (pair-at s 30 (omega arith)))

  -- The offer that was read is written as the place that it was read from.
  pub place_read : place_bytes edition (offer_of edition s) ≡ s
  unfolding place_bytes offer_of
  place_read =
      part-onto s 0 4 28 (u32_bytes-at s bytes 0 (omega arith))
      (part-onto s 4 4 24 (u32_bytes-at s bytes 4 (omega arith))
      (part-onto s 8 4 20 (value-part 0 8 (omega arith) (and_left _ _ both-absent))
      (part-onto s 12 4 16 (u32_bytes-at s bytes 12 (omega arith))
      (part-onto s 16 4 12 (value-part 1 16 (omega arith) (and_right (absent 0 8) _ both-absent))
      (part-onto s 20 8 4 (u64_bytes-at s bytes 20 (omega arith)) last-four)))))
      ∙ ap (part s 0) (sym whole)
      ∙ part-whole s
