-- The parts that the code cuts, from a start to an end, are the blocks, places and rows of the definitions; and how long
-- they are.
--
-- In order: a part cut from a start on; a block of a book, a place of a block; a part of a part, a row of a book; their lengths.
-- Assumes nothing.
use mathlib.Core.Path.{◌≡◌, sym, ap, ◌∙◌}
use mathlib.Core.List.{List}
use Prim.Native.Nat.{ℕ, ◌+◌, ◌-◌, ◌*◌, ◌/◌, ◌%◌, ◌≤◌, ◌<◌}
use native.Mathlib.Nat.{add-sub_cancel_left}
use native.Mathlib.Omega.{arith}
use lib.ListN.{length, take, drop, length-take, length-drop}
use lib.Seq.{drop_at, take-add, take-take, drop-drop}
use Rattle.sections.specs.Blocks.{block_of, place_of, row_bytes}

-- a part of n bytes, from a start to an end
pub part-from : (s : List ℕ) (at n : ℕ) → take (at + n - at) (drop at s) ≡ take n (drop at s)
part-from s at n = rw add-sub_cancel_left

-- block k of a book, as the code cuts it
pub block-part : (b : List ℕ) (k : ℕ) → take (k * 512 + 512 - k * 512) (drop (k * 512) b) ≡ block_of b k
unfolding block_of
block-part b k = part-from b (k * 512) 512

-- place i of a block, as the code cuts it
pub place-part : (s : List ℕ) (i : ℕ) → take (28 + i * 32 + 32 - (28 + i * 32)) (drop (28 + i * 32) s) ≡ place_of s i
unfolding place_of
place-part s i = part-from s (28 + i * 32) 32

-- n bytes of a longer part
part-inside : (s : List ℕ) (from at n m : ℕ) → at + n ≤ m → from + m ≤ length s
    → take n (drop at (take m (drop from s))) ≡ take n (drop (from + at) s)
part-inside s from at n m h l =
    let part = drop from s in
    let rest = m - at in
    let longer : m ≡ at + rest = omega arith in
    let before : length (take at part) ≡ at = simp (length-take, length-drop) (omega arith) in
    ap (λ (k : ℕ). take n (drop at (take k part))) longer
    ∙ ap (λ (t : List ℕ). take n (drop at t)) (take-add at rest part)
    ∙ ap (take n) (drop_at (take at part) (take rest (drop at part)) at before)
    ∙ take-take n rest (drop at part) (omega arith)
    ∙ ap (take n) (drop-drop at from s)

-- a row's place of its block, as the code cuts it: the block is as long as sixteen places
pub row-part : (b : List ℕ) (first row : ℕ) → (first + row / 15) * 512 + 512 ≤ length b →
    let from = first * 512 + 28 + (row + row / 15) * 32 in
    take (from + 32 - from) (drop from b) ≡ row_bytes b first row
unfolding row_bytes block_of place_of
row-part b first row h =
    let from = first * 512 + 28 + (row + row / 15) * 32 in
    let at = 28 + row % 15 * 32 in
    let start : from ≡ (first + row / 15) * 512 + at = omega arith in
    part-from b from 32
    ∙ ap (λ (k : ℕ). take 32 (drop k b)) start
    ∙ sym (part-inside b ((first + row / 15) * 512) at 32 512 (omega arith) h)

part_length : (s : List ℕ) (at n : ℕ) → at + n ≤ length s → length (take n (drop at s)) ≡ n
part_length s at n h = simp (length-take, length-drop) (omega arith)

-- a block inside the book has 512 bytes
pub block-length : (b : List ℕ) (k : ℕ) → k * 512 + 512 ≤ length b → length (block_of b k) ≡ 512
unfolding block_of
block-length b k h = part_length b (k * 512) 512 h

-- one of the fifteen places of such a block has 32 bytes
pub place-length : (s : List ℕ) (i : ℕ) → 512 ≤ length s → i < 15 → length (place_of s i) ≡ 32
unfolding place_of
place-length s i h l = part_length s (28 + i * 32) 32 (omega arith)

-- a row whose block is inside the book has 32 bytes
pub row-length : (b : List ℕ) (first row : ℕ)
    → (first + row / 15) * 512 + 512 ≤ length b → length (row_bytes b first row) ≡ 32
unfolding row_bytes
row-length b first row h =
    place-length (block_of b (first + row / 15)) (row % 15)
    (omega (arith, block-length b (first + row / 15) h))
    (omega arith)
