-- Bytes of a part of the book: little-endian numbers, the four letters that open a block, bytes that are zero.
-- A byte past the end of the part reads as 0; no function of the code reads one.
-- Assumes nothing.
use Rattle.std.specs.Prelude.{ℕ, ◌+◌, ◌*◌, Bool, ◌&&◌, List, get_or, eqb}
use Rattle.laws.specs.Sum.{every}

-- the byte at a place
abbrev pub byte : List ℕ → ℕ → ℕ
byte s at = get_or s at 0

-- little-endian numbers of 16, 32 and 64 bits that start at a place
unfoldable pub u16_at : List ℕ → ℕ → ℕ
u16_at s at = byte s at + byte s (at + 1) * 256

unfoldable pub u32_at : List ℕ → ℕ → ℕ
u32_at s at = u16_at s at + u16_at s (at + 2) * 65536

unfoldable pub u64_at : List ℕ → ℕ → ℕ
u64_at s at = u32_at s at + u32_at s (at + 4) * 4294967296

-- the part opens with the four letters
unfoldable pub opens_with : List ℕ → List ℕ → Bool
opens_with s letters =
    eqb (byte s 0) (byte letters 0) && (eqb (byte s 1) (byte letters 1)
    && (eqb (byte s 2) (byte letters 2) && eqb (byte s 3) (byte letters 3)))

-- the n bytes from a place on are all zero
unfoldable pub blank : List ℕ → ℕ → ℕ → Bool
blank s from n = every (λ i. eqb (byte s (from + i)) 0) n
