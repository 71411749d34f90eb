-- Parts of a block from what its tests say of them.
--
-- In order: the letters; zeros; a part of bytes, a block and a row; two books with the same blocks.
-- Assumes nothing.
use mathlib.Core.Path.{◌≡◌, sym, ap, ◌∙◌}
use mathlib.Core.Bool.{Bool, true, ◌&&◌}
use mathlib.Core.List.{List, [], ◌∷◌, append-nil}
use Prim.Native.Nat.{ℕ, ◌+◌, ◌*◌, ◌/◌, ◌%◌, ◌≤◌, ◌<◌}
use native.Mathlib.Omega.{arith}
use lib.ListN.{length, drop, length-take, get_or-eq_default}
use lib.Dec.{eqb}
use lib.Seq.{ext_get_or}
use borrow.Author.Tests.{eqb-true}
use Rattle.laws.proofs.Cases.{by_order, and_left, and_right}
use Rattle.block.specs.Bytes.{byte, opens_with, blank}
use Rattle.sections.specs.Blocks.{block_of, place_of, row_bytes}
use Rattle.sections.proofs.Places.{blank-at}
use Rattle.encoding.specs.Numbers.{zeros}
use Rattle.encoding.proofs.Cuts.{part, part-onto, length_part, get_d_part}
use Rattle.encoding.proofs.Digits.{Bytes, pair-at, length-zeros, byte-zeros}

-- a block that opens with four letters has them as its first part
pub letters-part : (s : List ℕ) (a b c d : ℕ) → 4 ≤ length s → opens_with s (a ∷ b ∷ c ∷ d ∷ []) ≡ true
    → a ∷ b ∷ c ∷ d ∷ [] ≡ part s 0 4
unfolding opens_with
letters-part s a b c d h e =
    let first : Bool = eqb (byte s 0) a in
    let second : Bool = eqb (byte s 1) b in
    let third : Bool = eqb (byte s 2) c in
    let fourth : Bool = eqb (byte s 3) d in
    let from_second : second && (third && fourth) ≡ true = and_right first _ e in
    let from-third : third && fourth ≡ true = and_right second _ from_second in
    let at-0 : byte s 0 ≡ a = eqb-true _ _ (and_left first _ e) in
    let at_1 : byte s 1 ≡ b = eqb-true _ _ (and_left second _ from_second) in
    let at-2 : byte s 2 ≡ c = eqb-true _ _ (and_left third _ from-third) in
    let at-3 : byte s 3 ≡ d = eqb-true _ _ (and_right third _ from-third) in
    (λ i. sym at-0 i ∷ sym at_1 i ∷ sym at-2 i ∷ sym at-3 i ∷ [])
    ∙ part-onto s 0 2 2 (sym (pair-at s 0 (omega arith))) (sym (pair-at s 2 (omega arith)))

-- bytes that are all zero
pub zeros-part : (s : List ℕ) (at n : ℕ) → at + n ≤ length s → blank s at n ≡ true → zeros n ≡ part s at n
zeros-part s at n h e =
    ext_get_or 0 (zeros n) (part s at n) (length-zeros n ∙ sym (length_part s at n h))
    (λ i l.
    let within : i < n = omega (arith, length-zeros n) in
    ap (λ (t : List ℕ). byte t i) (sym (append-nil (zeros n)))
    ∙ byte-zeros n i [] within
    ∙ sym (get_d_part s at n i 0 within ∙ blank-at s at n i e within))

-- ---- bytes

-- where each byte that is there is under 256, so is what is read past the end
pub bytes_read : (s : List ℕ) → ((i : ℕ) → i < length s → byte s i < 256) → Bytes s
bytes_read s h i =
    by_order (length s) i (λ l. omega (arith, get_or-eq_default s 0 {n = i} l)) (λ l. h i l)

pub bytes-part : (s : List ℕ) (at n : ℕ) → Bytes s → Bytes (part s at n)
bytes-part s at n h =
    bytes_read (part s at n)
    (λ i l.
    let within : i < n = omega (arith, length-take n (drop at s)) in
    omega (arith, get_d_part s at n i 0 within, h (at + i)))

module _ (b : List ℕ) (bytes : Bytes b) where
  pub block-bytes : (k : ℕ) → Bytes (block_of b k)
  unfolding block_of
  block-bytes k = bytes-part b (k * 512) 512 bytes

  pub row-bytes : (first row : ℕ) → Bytes (row_bytes b first row)
  unfolding row_bytes place_of
  row-bytes first row =
      bytes-part (block_of b (first + row / 15)) (28 + row % 15 * 32) 32 (block-bytes (first + row / 15))

-- ---- blocks

-- two books of as many blocks that have the same blocks
pub same_blocks : (b d : List ℕ) (n : ℕ) → length b ≡ 512 * n → length d ≡ 512 * n
    → ((k : ℕ) → k < n → block_of b k ≡ block_of d k) → b ≡ d
unfolding block_of
same_blocks b d n e f h =
    ext_get_or 0 b d (e ∙ sym f)
    (λ i l.
    let k : ℕ = i / 512 in
    let here : k * 512 + i % 512 ≡ i = omega arith in
    ap (byte b) (sym here)
    ∙ sym (get_d_part b (k * 512) 512 (i % 512) 0 (omega arith))
    ∙ ap (λ (s : List ℕ). byte s (i % 512)) (h k (omega arith))
    ∙ get_d_part d (k * 512) 512 (i % 512) 0 (omega arith)
    ∙ ap (byte d) here)
