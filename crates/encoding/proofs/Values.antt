-- Values that are given or missing, in bytes and marks, each from the other.
--
-- In order: the number and the mark that a value is written as; a value read back from both; the bytes and the mark of a value
-- that was read.
-- Assumes nothing.
use mathlib.Core.Path.{◌≡◌, refl, sym, ap, ◌∙◌}
use mathlib.Core.Bool.{Bool, true, false}
use Prim.Native.Nat.{ℕ, zero, suc, ◌*◌, ◌/◌, ◌%◌, ◌^◌, ◌≤◌, ◌<◌}
use native.Mathlib.Nat.{mod-lt}
use native.Mathlib.Omega.{arith}
use lib.Dec.{eqb}
use borrow.Author.Tests.{eqb-true}
use Rattle.values.specs.Values.{marked, value_of, absent_is_zero}
use Rattle.values.specs.declared.Value.{Value}
use Rattle.values.specs.declared.Value.TheVariants.{Given, Missing}
use Rattle.encoding.specs.Numbers.{u16_bytes, u32_bytes, zeros, value_bytes, mark_of}
use Rattle.encoding.specs.Widths.{ValueFits}

-- the number that a value is written as, and its mark
abbrev pub written : Value → ℕ
written (Given number) = number
written Missing = 0

abbrev pub mark : Value → ℕ
mark (Given number) = 1
mark Missing = 0

pub value_bytes-written : (v : Value) → value_bytes v ≡ u32_bytes (written v)
unfolding u32_bytes u16_bytes zeros
value_bytes-written (Given number) = refl
value_bytes-written Missing = refl

pub written-fits : (v : Value) → ValueFits v → written v < 4294967296
written-fits (Given number) h = h
written-fits Missing h = omega arith

pub mark-most : (v : Value) → mark v ≤ 1
mark-most (Given number) = omega arith
mark-most Missing = omega arith

pub mark_of-mark : (bit : ℕ) (v : Value) → mark_of bit v ≡ mark v * 2 ^ bit
mark_of-mark bit (Given number) = omega arith
mark_of-mark bit Missing = omega arith

-- ---- a value read back

module _ (v : Value) (marks bit : ℕ) (here : marks / 2 ^ bit % 2 ≡ mark v) where
  -- where the mark is the value's own, so is the value that is read
  pub value-back : {n : ℕ} → n ≡ written v → value_of (marked marks bit) n ≡ v
  unfolding marked
  value-back e = rw (here, e) (own v)
    where
      own : (w : Value) → value_of (eqb (mark w) 1) (written w) ≡ w
      own (Given number) = refl
      own Missing = refl

  -- and a value that is missing has zero bytes
  pub absent-back : {n : ℕ} → n ≡ written v → absent_is_zero (marked marks bit) n ≡ true
  unfolding marked
  absent-back e = rw (here, e) (own v)
    where
      own : (w : Value) → absent_is_zero (eqb (mark w) 1) (written w) ≡ true
      own (Given number) = refl
      own Missing = refl

-- ---- a value that was read

module _ (marks bit n : ℕ) where
  -- its mark is the bit that was read
  mark-read : mark (value_of (marked marks bit) n) ≡ marks / 2 ^ bit % 2
  unfolding marked
  mark-read = own (marks / 2 ^ bit % 2) (mod-lt (marks / 2 ^ bit) (omega arith))
    where
      own : (d : ℕ) → d < 2 → mark (value_of (eqb d 1) n) ≡ d
      own zero h = refl
      own (suc zero) h = refl
      own (suc (suc d)) h = absurd (omega arith)

  pub mark_of-read : mark_of bit (value_of (marked marks bit) n) ≡ marks / 2 ^ bit % 2 * 2 ^ bit
  mark_of-read = mark_of-mark bit (value_of (marked marks bit) n) ∙ ap (λ (d : ℕ). d * 2 ^ bit) mark-read

  -- its bytes are those of the number, where a missing one has zero bytes
  pub value_bytes-read : absent_is_zero (marked marks bit) n ≡ true → value_bytes (value_of (marked marks bit) n) ≡ u32_bytes n
  value_bytes-read h = value_bytes-written (value_of (marked marks bit) n) ∙ ap u32_bytes (own (marked marks bit) h)
    where
      own : (t : Bool) → absent_is_zero t n ≡ true → written (value_of t n) ≡ n
      own true e = refl
      own false e = sym (eqb-true n 0 e)
