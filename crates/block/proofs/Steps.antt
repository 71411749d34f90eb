-- Laws of running sums from the last place back.
--
-- In order: no step, and one more; what both are after some steps, and after all; the running sum and the total of a block are
-- its first and second sum.
-- Assumes nothing.
use mathlib.Core.Path.{◌≡◌, refl, sym, ap, ◌∙◌}
use mathlib.Core.List.{List}
use Prim.Native.Nat.{ℕ, zero, suc, ◌+◌, ◌*◌, ◌-◌}
use native.Mathlib.Nat.{add-mul, mul-suc, mul-zero, add-zero}
use native.Mathlib.Numerals.{add-one}
use native.Mathlib.Omega.{arith}
use Rattle.laws.specs.Sum.{sum_to}
use Rattle.laws.proofs.Sums.{sum_to-zero, sum_to-suc}
use Rattle.block.specs.Bytes.{byte}
use Rattle.block.specs.Check.{first_sum, second_sum}
use Rattle.block.specs.Running.{running_sum, running_total, block_sum, block_total}

-- each value times its place counted from 1
abbrev pub placed : (ℕ → ℕ) → ℕ → ℕ
placed f i = f i * (i + 1)

module _ (f : ℕ → ℕ) (n : ℕ) where
  pub running_sum-none : running_sum f n 0 ≡ 0
  unfolding running_sum
  running_sum-none = refl

  pub running_sum-more : (k : ℕ) → running_sum f n (suc k) ≡ running_sum f n k + f (n - suc k)
  unfolding running_sum
  running_sum-more k = refl

  pub running_total-none : running_total f n 0 ≡ 0
  unfolding running_total
  running_total-none = refl

  pub running_total-more : (k : ℕ) → running_total f n (suc k) ≡ running_total f n k + running_sum f n (suc k)
  unfolding running_total
  running_total-more k = refl

  -- the running sum has what stands behind the m places that are left
  running_sum-rest : (k m : ℕ) → m + k ≡ n → running_sum f n k + sum_to f m ≡ sum_to f n
  running_sum-rest zero m e = omega (arith, running_sum-none, ap (sum_to f) (sym (add-zero m) ∙ e))
  running_sum-rest (suc k) m e =
      let here : n - suc k ≡ m = omega arith in
      omega (arith, running_sum-more k, sum_to-suc f m, running_sum-rest k (suc m) (omega arith), ap f here)

  -- and will be added into the total as often as places are left
  running_total-rest : (k m : ℕ) → m + k ≡ n
      → running_total f n k + running_sum f n k * m + sum_to (placed f) m ≡ sum_to (placed f) n
  running_total-rest zero m e =
      let whole : sum_to (placed f) m ≡ sum_to (placed f) n = ap (sum_to (placed f)) (sym (add-zero m) ∙ e) in
      omega (arith, running_total-none, ap (λ (x : ℕ). x * m) running_sum-none)
  running_total-rest (suc k) m e =
      let here : n - suc k ≡ m = omega arith in
      let r : ℕ = running_sum f n k in
      let grown : running_sum f n (suc k) ≡ r + f m = running_sum-more k ∙ ap (λ (x : ℕ). r + f x) here in
      omega (
        arith,
        grown,
        running_total-more k,
        running_total-rest k (suc m) (omega arith),
        sum_to-suc (placed f) m,
        ap (λ (x : ℕ). x * m) grown,
        add-mul r (f m) m,
        mul-suc r m,
        ap (λ (x : ℕ). f m * x) (add-one m),
        mul-suc (f m) m,
      )

  -- after all steps the running sum is the sum
  pub running_sum-all : running_sum f n n ≡ sum_to f n
  running_sum-all = omega (arith, running_sum-rest n 0 (omega arith), sum_to-zero f)

  -- and the total the sum of each value times its place
  pub running_total-all : running_total f n n ≡ sum_to (placed f) n
  running_total-all =
      omega (arith, running_total-rest n 0 (omega arith), sum_to-zero (placed f), mul-zero (running_sum f n n))

-- Running sums from byte 507 back: at byte 0 the running sum is the first sum of the check.
pub block_sum-first : (s : List ℕ) → block_sum s ≡ first_sum s
unfolding first_sum
block_sum-first s = running_sum-all (byte s) 508

-- And the total is the second.
pub block_total-second : (s : List ℕ) → block_total s ≡ second_sum s
unfolding second_sum
block_total-second s = running_total-all (byte s) 508
