-- Keys that stand for others in an order.
--
-- In order: a key that is what another leaves of a number orders from the other's end; a key of two halves orders as its
-- high half, then its low half.
-- Assumes nothing.
use mathlib.Core.Path.{◌≡◌, sym, ◌∙◌}
use mathlib.Core.Bool.{Bool}
use Prim.Native.Nat.{ℕ, ◌+◌, ◌*◌, ◌<◌}
use native.Mathlib.Omega.{arith}
use Rattle.laws.specs.Orders.{then_by, highest_by}
use Rattle.laws.proofs.Orders.{by-comparison, then_by-lower, then_by-equal, then_by-higher}
use Rattle.laws.proofs.Orders.{highest_by-lower, highest_by-equal, highest_by-higher}

-- where key and other add up to one number at both places, the lower key is the higher other
pub then_by-rest : (key other : ℕ → ℕ) (rest : ℕ → ℕ → Bool) (top i j : ℕ)
    → key i + other i ≡ top → key j + other j ≡ top
    → then_by key rest i j ≡ highest_by other rest i j
then_by-rest key other rest top i j e f =
    by-comparison (key i) (key j)
    (λ h. then_by-lower key rest i j h ∙ sym (highest_by-higher other rest i j (omega arith)))
    (λ h. then_by-equal key rest i j h ∙ sym (highest_by-equal other rest i j (omega arith)))
    (λ h. then_by-higher key rest i j h ∙ sym (highest_by-lower other rest i j (omega arith)))

module _ (high low : ℕ → ℕ) (rest : ℕ → ℕ → Bool)
    (i j : ℕ) (small-i : low i < 4294967296) (small-j : low j < 4294967296) where
  abbrev both : ℕ → ℕ
  both k = high k * 4294967296 + low k

  same-high : high i ≡ high j → then_by both rest i j ≡ then_by low rest i j
  same-high e =
      by-comparison (low i) (low j)
      (λ h. then_by-lower both rest i j (omega arith) ∙ sym (then_by-lower low rest i j h))
      (λ h. then_by-equal both rest i j (omega arith) ∙ sym (then_by-equal low rest i j h))
      (λ h. then_by-higher both rest i j (omega arith) ∙ sym (then_by-higher low rest i j h))

  -- a number of two halves of 32 bits
  pub then_by-halves : then_by both rest i j ≡ then_by high (then_by low rest) i j
  then_by-halves =
      by-comparison (high i) (high j)
      (λ h. then_by-lower both rest i j (omega arith) ∙ sym (then_by-lower high (then_by low rest) i j h))
      (λ h. same-high h ∙ sym (then_by-equal high (then_by low rest) i j h))
      (λ h. then_by-higher both rest i j (omega arith) ∙ sym (then_by-higher high (then_by low rest) i j h))
