-- Two numbers, two sums and two products compared.
--
-- In order: cases on two numbers, and on the last place; a sum of one number; sums of which one grows faster; ordered sums
-- that are equal are equal in each place; the greater factor goes with the greater amount.
-- Assumes nothing.
use mathlib.Core.Path.{◌≡◌, sym, ap, ◌∙◌}
use Prim.Native.Nat.{ℕ, zero, suc, ◌+◌, ◌-◌, ◌*◌, ◌≤◌, ◌<◌}
use native.Mathlib.Nat.{add-sub_of_le, le_antisymm, le_of_lt, le_refl, not-suc-le-zero}
use native.Mathlib.Nat.{add-mul, mul-le-mul_left, mul-lt-mul_of_pos_left, mul-suc, mul-zero}
use native.Mathlib.Omega.{arith}
use Rattle.laws.specs.Sum.{sum_to}
use Rattle.laws.proofs.Cases.{by_order}
use Rattle.laws.proofs.Sums.{sum_to-zero, sum_to-suc, sum_to-mono}

-- less, equal or greater
pub by-comparison {ℓ} : {X : Type ℓ} (a b : ℕ) → (a < b → X) → (a ≡ b → X) → (b < a → X) → X
by-comparison a b f e g = by_order a b (λ h. by_order b a (λ k. e (le_antisymm h k)) f) g

-- at most, unless it is greater
pub le-unless : (a b : ℕ) → (b < a → ⊥) → a ≤ b
le-unless a b refuted = by_order a b (λ h. h) (λ h. absurd (refuted h))

-- what holds at n and at every place before it holds at every place before n + 1
pub up-to-last {ℓ} : (P : ℕ → Type ℓ) (n : ℕ) → ((i : ℕ) → i < n → P i) → P n → (i : ℕ) → i < suc n → P i
up-to-last P n before last i l =
    by_order n i (λ h. rw (le_antisymm h (omega arith)) at last) (λ h. before i h)

-- a number summed n times
pub sum_to-const : (c n : ℕ) → sum_to (λ i. c) n ≡ c * n
sum_to-const c zero = sum_to-zero (λ i. c) ∙ sym (mul-zero c)
sum_to-const c (suc n) = omega (arith, sum_to-suc (λ i. c) n, sum_to-const c n, mul-suc c n)

-- from m to n places, the sum with the lesser summands grows by less
pub sum_to-growth : (f g : ℕ → ℕ) (m n : ℕ) → m ≤ n
    → ((i : ℕ) → m ≤ i → i < n → f i ≤ g i) → sum_to f n + sum_to g m ≤ sum_to f m + sum_to g n
sum_to-growth f g m zero l h = rw (le_antisymm l (omega arith)) (le_refl _)
sum_to-growth f g m (suc n) l h =
    let a = sum_to-suc f n in
    let b = sum_to-suc g n in
    by_order m n
    (λ k. omega (arith, h n k (le_refl (suc n)), sum_to-growth f g m n k (λ i r t. h i r (omega arith))))
    (λ k. rw (le_antisymm l k) (le_refl _))

-- where each summand of one sum is at most the other's and the sums are equal, so is each summand
pub sum_to-tight : (f g : ℕ → ℕ) (n : ℕ) → ((i : ℕ) → i < n → f i ≤ g i)
    → sum_to g n ≤ sum_to f n → (i : ℕ) → i < n → g i ≤ f i
sum_to-tight f g zero h e = λ i l. absurd (not-suc-le-zero l)
sum_to-tight f g (suc n) h e =
    let a = sum_to-suc f n in
    let b = sum_to-suc g n in
    let k : (i : ℕ) → i < n → f i ≤ g i = λ i l. h i (omega arith) in
    up-to-last (λ i. g i ≤ f i) n
    (sum_to-tight f g n k (omega (arith, h n (le_refl (suc n)))))
    (omega (arith, sum_to-mono f g n k))

mul-split : (p q a : ℕ) → q ≤ p → p * a ≡ q * a + (p - q) * a
mul-split p q a h = ap (λ (k : ℕ). k * a) (sym (add-sub_of_le h)) ∙ add-mul q (p - q) a

-- the greater factor on the greater amount gives no less than the greater factor on the lesser amount
pub mul-exchange : (p q x a : ℕ) → q ≤ p → a ≤ x → p * a + q * x ≤ p * x + q * a
mul-exchange p q x a h l = omega (arith, mul-split p q a h, mul-split p q x h, mul-le-mul_left (p - q) l)

-- with factors that differ, only then
pub mul-exchange-only : (p q x a : ℕ) → q < p → p * a + q * x ≤ p * x + q * a → a ≤ x
mul-exchange-only p q x a h e = le-unless a x (λ l. refuted (mul-lt-mul_of_pos_left l (omega arith)))
  where
    refuted : (p - q) * x < (p - q) * a → ⊥
    refuted l = omega (arith, mul-split p q a (le_of_lt h), mul-split p q x (le_of_lt h))
