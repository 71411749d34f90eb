-- What a check that holds says, and the number of 16 bits at a place after a byte is altered.
--
-- In order: the two equations of a check that holds; a check that fails; a byte altered elsewhere leaves the number; a byte
-- altered in it, low or high, changes it.
-- Assumes nothing.
use mathlib.Core.Path.{◌≡◌, ap}
use mathlib.Core.Bool.{true, false}
use mathlib.Core.List.{List}
use Prim.Native.Nat.{ℕ, ◌+◌, ◌%◌, ◌≤◌, ◌<◌}
use native.Mathlib.Omega.{arith}
use lib.ListN.{length, set}
use lib.Seq.{get_or-set_same, get_or-set_other}
use lib.Dec.{eqb}
use borrow.Author.Tests.{eqb-true}
use Rattle.laws.proofs.Cases.{by_order, by-test, and_left, and_right}
use Rattle.block.specs.Bytes.{byte, u16_at}
use Rattle.block.specs.Check.{first_sum, second_sum, check_holds}

-- where the check holds, the first sum is the one that is stored
pub check-first : (s : List ℕ) → check_holds s ≡ true → first_sum s % 65536 ≡ u16_at s 508
unfolding check_holds
check-first s h = eqb-true _ _ (and_left _ _ h)

-- and so is the second
pub check-second : (s : List ℕ) → check_holds s ≡ true → second_sum s % 65536 ≡ u16_at s 510
unfolding check_holds
check-second s h = eqb-true _ _ (and_right (eqb (first_sum s % 65536) (u16_at s 508)) _ h)

-- a check that cannot hold fails
pub check-fails : (s : List ℕ) → (check_holds s ≡ true → ⊥) → check_holds s ≡ false
check-fails s h = by-test (check_holds s) (λ e. absurd (h e)) (λ e. e)

module _ (s : List ℕ) (at i v : ℕ) where
  -- a byte altered elsewhere leaves the number
  pub u16_at-set-other : (at ≡ i → ⊥) → (at + 1 ≡ i → ⊥) → u16_at (set s i v) at ≡ u16_at s at
  unfolding u16_at
  u16_at-set-other low high =
      omega (arith, get_or-set_other s i at v 0 low, get_or-set_other s i (at + 1) v 0 high)

  u16_at-set-low : i ≡ at → i < length s → u16_at (set s i v) at ≡ u16_at s at → v ≡ byte s i
  unfolding u16_at
  u16_at-set-low here fits e =
      let high = get_or-set_other s i (at + 1) v 0 (λ q. omega arith) in
      omega (arith, get_or-set_same s i v 0 fits, ap (byte (set s i v)) here, ap (byte s) here)

  u16_at-set-high : i ≡ at + 1 → i < length s → u16_at (set s i v) at ≡ u16_at s at → v ≡ byte s i
  unfolding u16_at
  u16_at-set-high here fits e =
      let low = get_or-set_other s i at v 0 (λ q. omega arith) in
      omega (arith, get_or-set_same s i v 0 fits, ap (byte (set s i v)) here, ap (byte s) here)

  -- a store into the number leaves it only where it leaves the byte
  pub u16_at-set-inj :
      at ≤ i → i < at + 2 → i < length s → u16_at (set s i v) at ≡ u16_at s at → v ≡ byte s i
  u16_at-set-inj from below fits e =
      by_order i at (λ l. u16_at-set-low (omega arith) fits e) (λ l. u16_at-set-high (omega arith) fits e)
