-- Laws of `sum_to`.
--
-- In order: equal summands; sums that are ordered; two sums added; a sum over n places and m more; a factor; nothing to add;
-- one summand and the sum.
-- Assumes nothing.
use mathlib.Core.Path.{◌≡◌, refl, sym, ap, ◌∙◌}
use Prim.Native.Nat.{ℕ, zero, suc, ◌+◌, ◌*◌, ◌≤◌, ◌<◌}
use native.Mathlib.Nat.{mul-add, mul-zero, add_comm, add-zero, add-suc, not-suc-le-zero}
use native.Mathlib.Omega.{arith}
use Rattle.laws.specs.Sum.{sum_to}
use Rattle.laws.proofs.Cases.{by_order}

pub sum_to-zero : (f : ℕ → ℕ) → sum_to f 0 ≡ 0
unfolding sum_to
sum_to-zero f = refl

pub sum_to-suc : (f : ℕ → ℕ) (n : ℕ) → sum_to f (suc n) ≡ sum_to f n + f n
unfolding sum_to
sum_to-suc f n = refl

pub sum_to-ext : (f g : ℕ → ℕ) (n : ℕ) → ((i : ℕ) → i < n → f i ≡ g i) → sum_to f n ≡ sum_to g n
sum_to-ext f g zero h = sum_to-zero f ∙ sym (sum_to-zero g)
sum_to-ext f g (suc n) h =
    omega (arith, sum_to-suc f n, sum_to-suc g n, sum_to-ext f g n (λ i l. h i (omega arith)), h n (omega arith))

pub sum_to-mono : (f g : ℕ → ℕ) (n : ℕ) → ((i : ℕ) → i < n → f i ≤ g i) → sum_to f n ≤ sum_to g n
sum_to-mono f g zero h = omega (arith, sum_to-zero f, sum_to-zero g)
sum_to-mono f g (suc n) h =
    omega (arith, sum_to-suc f n, sum_to-suc g n, sum_to-mono f g n (λ i l. h i (omega arith)), h n (omega arith))

pub sum_to-add : (f g : ℕ → ℕ) (n : ℕ) → sum_to (λ i. f i + g i) n ≡ sum_to f n + sum_to g n
sum_to-add f g zero = omega (arith, sum_to-zero f, sum_to-zero g, sum_to-zero (λ i. f i + g i))
sum_to-add f g (suc n) =
    omega (arith, sum_to-suc f n, sum_to-suc g n, sum_to-suc (λ i. f i + g i) n, sum_to-add f g n)

-- the first n places, and m more
pub sum_to-append : (f : ℕ → ℕ) (n m : ℕ) → sum_to f (n + m) ≡ sum_to f n + sum_to (λ i. f (i + n)) m
sum_to-append f n zero = rw add-zero (omega (arith, sum_to-zero (λ i. f (i + n))))
sum_to-append f n (suc m) =
    let more = sum_to-suc (λ i. f (i + n)) m in
    rw add-suc (omega (arith, sum_to-append f n m, sum_to-suc f (n + m), ap f (add_comm n m)))

pub sum_to-mul : (k : ℕ) (f : ℕ → ℕ) (n : ℕ) → sum_to (λ i. k * f i) n ≡ k * sum_to f n
sum_to-mul k f zero = sum_to-zero (λ i. k * f i) ∙ sym (mul-zero k) ∙ ap (λ (s : ℕ). k * s) (sym (sum_to-zero f))
sum_to-mul k f (suc n) =
    sum_to-suc (λ i. k * f i) n
    ∙ ap (λ (s : ℕ). s + k * f n) (sum_to-mul k f n)
    ∙ sym (mul-add k (sum_to f n) (f n))
    ∙ ap (λ (s : ℕ). k * s) (sym (sum_to-suc f n))

pub sum_to-none : (f : ℕ → ℕ) (n : ℕ) → ((i : ℕ) → i < n → f i ≡ 0) → sum_to f n ≡ 0
sum_to-none f zero h = sum_to-zero f
sum_to-none f (suc n) h = omega (arith, sum_to-suc f n, sum_to-none f n (λ i l. h i (omega arith)), h n (omega arith))

-- one summand is at most the sum
pub sum_to-place : (f : ℕ → ℕ) (n i : ℕ) → i < n → f i ≤ sum_to f n
sum_to-place f zero i l = absurd (not-suc-le-zero l)
sum_to-place f (suc n) i l =
    by_order n i
    (λ h. let e : i ≡ n = omega arith in omega (arith, sum_to-suc f n, ap f e))
    (λ h. omega (arith, sum_to-suc f n, sum_to-place f n i h))
