-- A cause is found exactly where the test of the layout fails.
--
-- In order: letters and zero bytes; block 0; a place, the places of a block, a block of rows; the blocks of a section.
-- Assumes nothing.
use mathlib.Core.Path.{◌≡◌, refl, sym, ap, ◌∙◌}
use mathlib.Core.Bool.{Bool, true, false, and_assoc}
use mathlib.Core.List.{List}
use Prim.Native.Nat.{ℕ, ◌+◌, ◌*◌, ◌<◌}
use native.Mathlib.Nat.{zero-add}
use native.Mathlib.Omega.{arith}
use lib.Dec.{eqb, ltb}
use Rattle.laws.specs.Sum.{every}
use Rattle.block.specs.Bytes.{byte, u16_at, u32_at, opens_with, blank}
use Rattle.sections.specs.Blocks.{block_of, place_of}
use Rattle.sections.specs.Section.{blocks_for, rows_here, last_holds, used_holds, place_holds, places_hold, rows_hold, block_fault, section_fault}
use Rattle.sections.specs.declared.section.LastBytes.{LastBytes}
use Rattle.sections.specs.declared.section.Section.{Section}
use Rattle.sections.proofs.Places.{place_byte}
use Rattle.layout.specs.Layout.{head_marks_hold, head_holds}
use Rattle.causes.specs.Cause.{letters_cause, zeros_cause, head_marks_cause, head_cause, last_cause, used_cause, place_cause, places_cause, rows_cause, block_cause, section_cause}
use Rattle.causes.proofs.Passes.{passes, passes-unless, passes-and_then, passes-first}

module _ (s : List ℕ) where
  pub letters-agree : (letters : List ℕ) → passes (letters_cause s letters) ≡ opens_with s letters
  unfolding letters_cause opens_with every
  letters-agree letters =
      passes-first _ (λ i. eqb (byte s i) (byte letters i)) 4 (λ i l. passes-unless _ _) ∙ simp and_assoc

  pub zeros-agree : (from n : ℕ) → passes (zeros_cause s from n) ≡ blank s from n
  unfolding zeros_cause blank
  zeros-agree from n = passes-first _ (λ i. eqb (byte s (from + i)) 0) n (λ i l. passes-unless _ _)

  head-marks-agree : passes (head_marks_cause s) ≡ head_marks_hold s
  unfolding head_marks_cause head_marks_hold
  head-marks-agree = simp (passes-and_then, passes-unless)

  pub head-agree : (blocks : ℕ) → passes (head_cause s blocks) ≡ head_holds s blocks
  unfolding head_cause head_holds
  head-agree blocks = simp (passes-and_then, passes-unless, letters-agree, zeros-agree, head-marks-agree)

  -- a place of the block: its bytes are the block's, from where it starts
  module _ (i : ℕ) where
    place-u32 : (at : ℕ) → at + 4 < 32 → u32_at (place_of s i) at ≡ u32_at s (28 + i * 32 + at)
    unfolding u32_at u16_at
    place-u32 at l =
        let start : ℕ = 28 + i * 32 in
        let p = place_of s i in
        let at-0 : byte p at ≡ byte s (start + at) = place_byte s i at (omega arith) in
        let at_1 : byte p (at + 1) ≡ byte s (start + at + 1) =
        place_byte s i (at + 1) (omega arith) ∙ ap (byte s) (omega arith) in
        let at-2 : byte p (at + 2) ≡ byte s (start + at + 2) =
        place_byte s i (at + 2) (omega arith) ∙ ap (byte s) (omega arith) in
        let at-3 : byte p (at + 2 + 1) ≡ byte s (start + at + 2 + 1) =
        place_byte s i (at + 2 + 1) (omega arith) ∙ ap (byte s) (omega arith) in
        omega arith

    last-agree : (last : LastBytes) → passes (last_cause last s (28 + i * 32)) ≡ last_holds last (place_of s i)
    unfolding last_cause last_holds
    last-agree last =
        simp (
          passes-and_then,
          passes-unless,
          place_byte s i 28 (omega arith),
          place_byte s i 29 (omega arith),
          place_byte s i 30 (omega arith),
          place_byte s i 31 (omega arith),
        )

    used-agree : (last : LastBytes) → passes (used_cause last s (28 + i * 32)) ≡ used_holds last (place_of s i)
    unfolding used_cause used_holds
    used-agree last =
        simp (
          passes-and_then,
          passes-unless,
          last-agree last,
          place_byte s i 28 (omega arith),
          place-u32 8 (omega arith),
          place-u32 16 (omega arith),
        )

    unused-agree : passes (zeros_cause s (28 + i * 32) 32) ≡ blank (place_of s i) 0 32
    unfolding zeros_cause blank
    unused-agree =
        passes-first _ (λ j. eqb (byte (place_of s i) (0 + j)) 0) 32
        (λ j l.
        rw zero-add (passes-unless _ _ ∙ ap (λ (k : ℕ). eqb k 0) (sym (place_byte s i j l))))

    place-agree : (last : LastBytes) (used : Bool)
        → passes (place_cause last used s (28 + i * 32)) ≡ place_holds last used (place_of s i)
    unfolding place_cause place_holds
    place-agree last true = used-agree last
    place-agree last false = unused-agree

  places-agree : (last : LastBytes) (here : ℕ) → passes (places_cause last s here) ≡ places_hold last s here
  unfolding places_cause places_hold
  places-agree last here =
      passes-first _ (λ i. place_holds last (ltb i here) (place_of s i)) 15 (λ i l. place-agree i last (ltb i here))

  pub rows_agree : (t : Section) (k here : ℕ) → passes (rows_cause t s k here) ≡ rows_hold t s k here
  unfolding rows_cause rows_hold
  rows_agree t k here = simp (passes-and_then, passes-unless, letters-agree, zeros-agree, places-agree)

module _ (b : List ℕ) (t : Section) where
  pub block-agree : (j : ℕ) → passes (block_cause b t j) ≡ passes (block_fault b t j)
  unfolding block_cause block_fault
  block-agree j =
      let s = block_of b (t.first + j) in
      let here = rows_here t.rows j in
      rows_agree s t (t.number + j) here
      ∙ sym (passes-unless (rows_hold t s (t.number + j) here) _)

  pub section-agree : passes (section_cause b t) ≡ passes (section_fault b t)
  unfolding section_cause section_fault
  section-agree =
      let holds : ℕ → Bool = λ j. passes (block_fault b t j) in
      passes-first (block_cause b t) holds (blocks_for t.rows) (λ j l. block-agree j)
      ∙ sym (passes-first (block_fault b t) holds (blocks_for t.rows) (λ j l. refl))
