-- A block sealed by its two sums.
--
-- In order: the sums of lists that agree in bytes 0 to 507; a sealed block's length, its bytes and its check; a block whose check
-- holds.
-- Assumes nothing.
use mathlib.Core.Path.{◌≡◌, refl, sym, ap, ◌∙◌}
use mathlib.Core.Bool.{true}
use mathlib.Core.List.{List, [], ◌++◌}
use Prim.Native.Nat.{ℕ, ◌+◌, ◌*◌, ◌%◌, ◌<◌}
use native.Mathlib.Nat.{zero-add}
use native.Mathlib.Omega.{arith}
use lib.ListN.{length, length-append, get_or-append}
use borrow.Author.Tests.{eq-eqb}
use Rattle.laws.proofs.Cases.{and-true}
use Rattle.laws.proofs.Sums.{sum_to-ext}
use Rattle.block.specs.Bytes.{byte, u16_at}
use Rattle.block.specs.Check.{first_sum, second_sum, check_holds}
use Rattle.block.proofs.Stored.{check-first, check-second}
use Rattle.encoding.specs.Numbers.{u16_bytes}
use Rattle.encoding.specs.Encode.{sealed}
use Rattle.encoding.proofs.Cuts.{part, get_d_part, part-onto, part-whole}
use Rattle.encoding.proofs.Halves.{u16_bytes-kept}
use Rattle.encoding.proofs.Digits.{Bytes, u16_at-kept, u16_at-past, u16_bytes-at}

-- the four bytes behind the first 508
abbrev pub seal : List ℕ → List ℕ
seal s = u16_bytes (first_sum s) ++ u16_bytes (second_sum s)

-- ---- the sums go over the first 508 bytes

module _ (s t : List ℕ) (same : (i : ℕ) → i < 508 → byte s i ≡ byte t i) where
  first_sum-same : first_sum s ≡ first_sum t
  unfolding first_sum
  first_sum-same = sum_to-ext _ _ 508 same

  second_sum-same : second_sum s ≡ second_sum t
  unfolding second_sum
  second_sum-same = sum_to-ext _ _ 508 (λ i l. ap (λ (x : ℕ). x * (i + 1)) (same i l))

  pub seal-same : seal s ≡ seal t
  seal-same = rw (first_sum-same, second_sum-same)

-- ---- a sealed block

module _ (s : List ℕ) (whole : length s ≡ 508) where
  pub length-sealed : length (sealed s) ≡ 512
  unfolding sealed u16_bytes
  length-sealed = length-append s (seal s) ∙ ap (λ (n : ℕ). n + 4) whole

  pub byte-sealed : (i : ℕ) → i < 508 → byte (sealed s) i ≡ byte s i
  unfolding sealed
  byte-sealed i l = get_or-append s (seal s) 0 i (omega arith)

  first-stored : u16_at (sealed s) 508 ≡ first_sum s % 65536
  unfolding sealed
  first-stored = u16_at-past s (seal s) 508 0 whole ∙ u16_at-kept (first_sum s) (u16_bytes (second_sum s))

  second-stored : u16_at (sealed s) 510 ≡ second_sum s % 65536
  unfolding sealed u16_bytes
  second-stored =
      u16_at-past s (seal s) 508 2 whole
      ∙ u16_at-past (u16_bytes (first_sum s)) (u16_bytes (second_sum s) ++ []) 2 0 refl
      ∙ u16_at-kept (second_sum s) []

  -- The check of a sealed block holds.
  pub sealed-holds : check_holds (sealed s) ≡ true
  unfolding check_holds
  sealed-holds =
      and-true _ _
      (eq-eqb _ _ (ap (λ (n : ℕ). n % 65536) (first_sum-same (sealed s) s byte-sealed) ∙ sym first-stored))
      (eq-eqb _ _ (ap (λ (n : ℕ). n % 65536) (second_sum-same (sealed s) s byte-sealed) ∙ sym second-stored))

-- A block whose check holds is its first 508 bytes, sealed.
pub sealed-part : (s : List ℕ) → length s ≡ 512 → Bytes s → check_holds s ≡ true → sealed (part s 0 508) ≡ s
unfolding sealed
sealed-part s whole bytes holds =
    part-onto s 0 508 4 refl
    (seal-same (part s 0 508) s (λ i l. get_d_part s 0 508 i 0 l ∙ ap (byte s) (zero-add i))
    ∙ part-onto s 508 2 2
    (sym (u16_bytes-kept (first_sum s)) ∙ ap u16_bytes (check-first s holds) ∙ u16_bytes-at s bytes 508 (omega arith))
    (sym (u16_bytes-kept (second_sum s)) ∙ ap u16_bytes (check-second s holds) ∙ u16_bytes-at s bytes 510 (omega arith)))
    ∙ ap (part s 0) (sym whole)
    ∙ part-whole s
