-- A number of two digits to any base, and the two halves that it is written in.
--
-- In order: the low and the high digit; by width, the bytes of two halves, and that the bytes of any number tell it modulo their
-- base.
-- Assumes nothing.
use mathlib.Core.Path.{◌≡◌, sym, ap, ap₂, ◌∙◌}
use mathlib.Core.List.{[], ◌∷◌, ◌++◌}
use Prim.Native.Nat.{ℕ, ◌+◌, ◌*◌, ◌/◌, ◌%◌, ◌<◌}
use native.Mathlib.Nat.{add-mul-mod_self_right, add-mul-div_right, mod-eq_of_lt, div-eq_of_lt, zero-add}
use native.Mathlib.Omega.{arith}
use Rattle.encoding.specs.Numbers.{u16_bytes, u32_bytes, u64_bytes}

module _ (a b base : ℕ) (small : a < base) where
  pub low_digit : (a + b * base) % base ≡ a
  low_digit = add-mul-mod_self_right a b base ∙ mod-eq_of_lt small

  pub high_digit : (a + b * base) / base ≡ b
  high_digit =
      add-mul-div_right a b (omega arith) ∙ ap (λ (x : ℕ). x + b) (div-eq_of_lt small) ∙ zero-add b

-- ---- 16 bits

pub u16_bytes-halves : (a b : ℕ) → a < 256 → b < 256 → u16_bytes (a + b * 256) ≡ a ∷ b ∷ []
unfolding u16_bytes
u16_bytes-halves a b h k = rw (low_digit a b 256 h, high_digit a b 256 h, mod-eq_of_lt k)

-- the bytes tell the number modulo 65,536
pub u16_bytes-kept : (n : ℕ) → u16_bytes (n % 65536) ≡ u16_bytes n
unfolding u16_bytes
u16_bytes-kept n =
    let halves : n % 65536 ≡ n % 256 + n / 256 % 256 * 256 = omega arith in
    ap u16_bytes halves ∙ u16_bytes-halves (n % 256) (n / 256 % 256) (omega arith) (omega arith)

-- ---- 32 bits

pub u32_bytes-halves : (a b : ℕ) → a < 65536 → u32_bytes (a + b * 65536) ≡ u16_bytes a ++ u16_bytes b
unfolding u32_bytes
u32_bytes-halves a b h =
    ap₂ ◌++◌
    (sym (u16_bytes-kept (a + b * 65536)) ∙ ap u16_bytes (low_digit a b 65536 h))
    (ap u16_bytes (high_digit a b 65536 h))

-- the bytes tell the number modulo 4,294,967,296
u32_bytes-kept : (n : ℕ) → u32_bytes (n % 4294967296) ≡ u32_bytes n
unfolding u32_bytes
u32_bytes-kept n =
    let halves : n % 4294967296 ≡ n % 65536 + n / 65536 % 65536 * 65536 = omega arith in
    ap u32_bytes halves
    ∙ u32_bytes-halves (n % 65536) (n / 65536 % 65536) (omega arith)
    ∙ ap₂ ◌++◌ (u16_bytes-kept n) (u16_bytes-kept (n / 65536))

-- ---- 64 bits

pub u64_bytes-halves : (a b : ℕ) → a < 4294967296 → u64_bytes (a + b * 4294967296) ≡ u32_bytes a ++ u32_bytes b
unfolding u64_bytes
u64_bytes-halves a b h =
    ap₂ ◌++◌
    (sym (u32_bytes-kept (a + b * 4294967296)) ∙ ap u32_bytes (low_digit a b 4294967296 h))
    (ap u32_bytes (high_digit a b 4294967296 h))
