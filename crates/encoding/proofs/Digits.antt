-- Numbers and the bytes that they are written as, each from the other.
--
-- In order: a number read from its bytes, by width; a number in the second of two lists; the bounds of a number that is read, and
-- the bytes of a part from the number that it holds, by width; bytes of zero.
-- Assumes nothing.
use mathlib.Core.Path.{◌≡◌, refl, sym, ap, ap₂, ◌∙◌}
use mathlib.Core.List.{List, [], ◌∷◌, ◌++◌, append_assoc}
use Prim.Native.Nat.{ℕ, zero, suc, ◌+◌, ◌*◌, ◌/◌, ◌%◌, ◌≤◌, ◌<◌}
use native.Mathlib.Nat.{mod-eq_of_lt, add_assoc}
use native.Mathlib.Numerals.{add-one}
use native.Mathlib.Omega.{arith}
use lib.ListN.{length}
use lib.Seq.{drop-cons}
use Rattle.block.specs.Bytes.{byte, u16_at, u32_at, u64_at}
use Rattle.encoding.specs.Numbers.{u16_bytes, u32_bytes, u64_bytes, zeros}
use Rattle.encoding.proofs.Cuts.{part, part_join, get_d_past}
use Rattle.encoding.proofs.Halves.{u16_bytes-halves, u32_bytes-halves, u64_bytes-halves}

-- what is read of a byte is under 256
abbrev pub Bytes : List ℕ → Type 0
Bytes s = (i : ℕ) → byte s i < 256

-- ---- a number read from its bytes

pub u16_at-kept : (n : ℕ) (q : List ℕ) → u16_at (u16_bytes n ++ q) 0 ≡ n % 65536
unfolding u16_at u16_bytes
u16_at-kept n q = omega arith

u32_at-kept : (n : ℕ) (q : List ℕ) → u32_at (u32_bytes n ++ q) 0 ≡ n % 4294967296
unfolding u32_at u32_bytes u16_bytes u16_at
u32_at-kept n q =
    let low = u16_at-kept n (u16_bytes (n / 65536) ++ q) in
    let high = u16_at-kept (n / 65536) q in
    omega arith

pub u16_at-bytes : (n : ℕ) (q : List ℕ) → n < 65536 → u16_at (u16_bytes n ++ q) 0 ≡ n
u16_at-bytes n q h = u16_at-kept n q ∙ mod-eq_of_lt h

pub u32_at-bytes : (n : ℕ) (q : List ℕ) → n < 4294967296 → u32_at (u32_bytes n ++ q) 0 ≡ n
u32_at-bytes n q h = u32_at-kept n q ∙ mod-eq_of_lt h

-- the second half of 64 bits
second-half : (n m : ℕ) (q : List ℕ) → u32_at ((u32_bytes n ++ u32_bytes m) ++ q) 4 ≡ u32_at (u32_bytes m ++ q) 0
unfolding u32_at u16_at u32_bytes u16_bytes
second-half n m q = refl

pub u64_at-bytes : (n : ℕ) (q : List ℕ) → n < 18446744073709551616 → u64_at (u64_bytes n ++ q) 0 ≡ n
unfolding u64_at u64_bytes
u64_at-bytes n q h =
    let m : ℕ = n / 4294967296 in
    let low = ap (λ (s : List ℕ). u32_at s 0) (append_assoc (u32_bytes n) (u32_bytes m) q) ∙ u32_at-kept n (u32_bytes m ++ q) in
    let high = second-half n m q ∙ u32_at-kept m q in
    omega arith

-- ---- a number that stands in the second of two lists put together

pub u16_at-past : (p q : List ℕ) (k at : ℕ) → length p ≡ k → u16_at (p ++ q) (k + at) ≡ u16_at q at
unfolding u16_at
u16_at-past p q k at e =
    ap₂ (λ (a b : ℕ). a + b * 256)
    (get_d_past p q k at 0 e)
    (ap (byte (p ++ q)) (add_assoc k at 1) ∙ get_d_past p q k (at + 1) 0 e)

-- ---- the bytes of a part from the number that it holds

-- two bytes, one by one
pub pair-at : (s : List ℕ) (at : ℕ) → at + 2 ≤ length s → part s at 2 ≡ byte s at ∷ byte s (at + 1) ∷ []
pair-at s at h = rw (drop-cons s at 0 (omega arith), drop-cons s (suc at) 0 (omega arith), add-one at)

module _ (s : List ℕ) (bytes : Bytes s) where
  -- what a number read is less than, by width
  pub u16_at-most : (at : ℕ) → u16_at s at < 65536
  unfolding u16_at
  u16_at-most at = omega (arith, bytes at, bytes (at + 1))

  pub u32_at-most : (at : ℕ) → u32_at s at < 4294967296
  unfolding u32_at
  u32_at-most at = omega (arith, u16_at-most at, u16_at-most (at + 2))

  pub u64_at-most : (at : ℕ) → u64_at s at < 18446744073709551616
  unfolding u64_at
  u64_at-most at = omega (arith, u32_at-most at, u32_at-most (at + 4))

  pub u16_bytes-at : (at : ℕ) → at + 2 ≤ length s → u16_bytes (u16_at s at) ≡ part s at 2
  unfolding u16_at
  u16_bytes-at at h = u16_bytes-halves (byte s at) (byte s (at + 1)) (bytes at) (bytes (at + 1)) ∙ sym (pair-at s at h)

  pub u32_bytes-at : (at : ℕ) → at + 4 ≤ length s → u32_bytes (u32_at s at) ≡ part s at 4
  unfolding u32_at
  u32_bytes-at at h =
      u32_bytes-halves (u16_at s at) (u16_at s (at + 2)) (u16_at-most at)
      ∙ ap₂ ◌++◌ (u16_bytes-at at (omega arith)) (u16_bytes-at (at + 2) (omega arith))
      ∙ part_join s at 2 2

  pub u64_bytes-at : (at : ℕ) → at + 8 ≤ length s → u64_bytes (u64_at s at) ≡ part s at 8
  unfolding u64_at
  u64_bytes-at at h =
      u64_bytes-halves (u32_at s at) (u32_at s (at + 4)) (u32_at-most at)
      ∙ ap₂ ◌++◌ (u32_bytes-at at (omega arith)) (u32_bytes-at (at + 4) (omega arith))
      ∙ part_join s at 4 4

-- ---- bytes of zero

pub length-zeros : (n : ℕ) → length (zeros n) ≡ n
unfolding zeros
length-zeros zero = refl
length-zeros (suc n) = ap suc (length-zeros n)

pub byte-zeros : (n i : ℕ) (q : List ℕ) → i < n → byte (zeros n ++ q) i ≡ 0
unfolding zeros
byte-zeros zero i q h = absurd (omega arith)
byte-zeros (suc n) zero q h = refl
byte-zeros (suc n) (suc i) q h = byte-zeros n i q (omega arith)
