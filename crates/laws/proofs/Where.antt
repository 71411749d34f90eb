-- Laws of `sum_where`, the sum over those places that pass a test.
--
-- In order: one place more; a test that implies another; equal tests; a test that is either of two; no place that passes,
-- or every; all places; summands that are 0 where the test fails; one place that passes; ordered values; a sum that is not 0
-- has a place that passes.
-- Assumes nothing.
use mathlib.Core.Path.{◌≡◌, refl, sym, ap₂, ◌∙◌}
use mathlib.Core.Bool.{Bool, true, false, cond, ◌||◌, true≢false, false≢true}
use Prim.Native.Nat.{ℕ, zero, suc, ◌+◌, ◌≤◌, ◌<◌}
use native.Mathlib.Nat.{le_refl, zero-add, add-zero}
use native.Mathlib.Omega.{arith}
use Rattle.laws.specs.Sum.{sum_to, sum_where}
use Rattle.laws.proofs.Cases.{by-test, cond-true, cond-false}
use Rattle.laws.proofs.Compare.{sum_to-tight}
use Rattle.laws.proofs.Sums.{sum_to-zero, sum_to-suc, sum_to-ext, sum_to-mono, sum_to-add, sum_to-none, sum_to-place}

-- no place, nothing to add
pub sum_where-zero : (test : ℕ → Bool) (f : ℕ → ℕ) → sum_where test f 0 ≡ 0
unfolding sum_where
sum_where-zero test f = sum_to-zero (λ i. cond (test i) (f i) 0)

-- one place more adds its value if it passes
pub sum_where-suc : (test : ℕ → Bool) (f : ℕ → ℕ) (n : ℕ)
    → sum_where test f (suc n) ≡ sum_where test f n + cond (test n) (f n) 0
unfolding sum_where
sum_where-suc test f n = sum_to-suc (λ i. cond (test i) (f i) 0) n

-- one place more gives no less
pub sum_where-more : (test : ℕ → Bool) (f : ℕ → ℕ) (n : ℕ) → sum_where test f n ≤ sum_where test f (suc n)
sum_where-more test f n = omega (arith, sum_where-suc test f n)

-- a value that counts under one test counts under a test that it implies
cond-implied : (s t : Bool) (v : ℕ) → (s ≡ true → t ≡ true) → cond s v 0 ≤ cond t v 0
cond-implied true true v h = le_refl v
cond-implied true false v h = absurd (false≢true (h refl))
cond-implied false t v h = omega arith

-- where one test implies another, the sum under it is at most the sum under the other
pub sum_where-implied : (s t : ℕ → Bool) (f : ℕ → ℕ) (n : ℕ)
    → ((i : ℕ) → i < n → s i ≡ true → t i ≡ true) → sum_where s f n ≤ sum_where t f n
unfolding sum_where
sum_where-implied s t f n h = sum_to-mono _ _ n (λ i l. cond-implied (s i) (t i) (f i) (h i l))

-- tests and values that agree at every place give one sum
pub sum_where-agree : (s t : ℕ → Bool) (f g : ℕ → ℕ) (n : ℕ)
    → ((i : ℕ) → i < n → s i ≡ t i) → ((i : ℕ) → i < n → f i ≡ g i) → sum_where s f n ≡ sum_where t g n
unfolding sum_where
sum_where-agree s t f g n h k = sum_to-ext _ _ n (λ i l. ap₂ (λ (b : Bool) (v : ℕ). cond b v 0) (h i l) (k i l))

-- two tests that agree at every place give one sum
pub sum_where-same : (s t : ℕ → Bool) (f : ℕ → ℕ) (n : ℕ)
    → ((i : ℕ) → i < n → s i ≡ t i) → sum_where s f n ≡ sum_where t f n
sum_where-same s t f n h = sum_where-agree s t f f n h (λ i l. refl)

-- either of two tests, never both
cond_either : (s t : Bool) (v : ℕ) → (s ≡ true → t ≡ false) → cond s v 0 + cond t v 0 ≡ cond (s || t) v 0
cond_either true true v h = absurd (true≢false (h refl))
cond_either true false v h = add-zero v
cond_either false t v h = zero-add (cond t v 0)

-- the places that pass either of two tests, of which never both hold, give both sums
pub sum_where-either : (s t : ℕ → Bool) (f : ℕ → ℕ) (n : ℕ)
    → ((i : ℕ) → i < n → s i ≡ true → t i ≡ false)
    → sum_where s f n + sum_where t f n ≡ sum_where (λ i. s i || t i) f n
unfolding sum_where
sum_where-either s t f n h =
    sym (sum_to-add (λ i. cond (s i) (f i) 0) (λ i. cond (t i) (f i) 0) n)
    ∙ sum_to-ext _ _ n (λ i l. cond_either (s i) (t i) (f i) (h i l))

-- where no place passes, there is nothing to add
pub sum_where-none : (test : ℕ → Bool) (f : ℕ → ℕ) (n : ℕ)
    → ((i : ℕ) → i < n → test i ≡ false) → sum_where test f n ≡ 0
unfolding sum_where
sum_where-none test f n h = sum_to-none _ n (λ i l. cond-false (test i) (f i) 0 (h i l))

-- where every place passes, the sum is that over all
pub sum_where-every : (test : ℕ → Bool) (f : ℕ → ℕ) (n : ℕ)
    → ((i : ℕ) → i < n → test i ≡ true) → sum_where test f n ≡ sum_to f n
unfolding sum_where
sum_where-every test f n h = sum_to-ext _ f n (λ i l. cond-true (test i) (f i) 0 (h i l))

cond-at-most : (t : Bool) (v : ℕ) → cond t v 0 ≤ v
cond-at-most true v = le_refl v
cond-at-most false v = omega arith

-- the sum over some places is at most the sum over all
pub sum_where-all : (test : ℕ → Bool) (f : ℕ → ℕ) (n : ℕ) → sum_where test f n ≤ sum_to f n
unfolding sum_where
sum_where-all test f n = sum_to-mono _ f n (λ i l. cond-at-most (test i) (f i))

cond-covers : (t : Bool) (a v : ℕ) → (t ≡ true → a ≤ v) → (t ≡ false → a ≤ 0) → a ≤ cond t v 0
cond-covers true a v h k = h refl
cond-covers false a v h k = k refl

-- where what fails is 0, and what passes at most f, all places together are at most the sum of f over those that pass
pub sum_where-covers : (test : ℕ → Bool) (a f : ℕ → ℕ) (n : ℕ)
    → ((i : ℕ) → i < n → test i ≡ true → a i ≤ f i)
    → ((i : ℕ) → i < n → test i ≡ false → a i ≤ 0) → sum_to a n ≤ sum_where test f n
unfolding sum_where
sum_where-covers test a f n h k = sum_to-mono a _ n (λ i l. cond-covers (test i) (a i) (f i) (h i l) (k i l))

-- the value of a place that passes is at most the sum
pub sum_where-place : (test : ℕ → Bool) (f : ℕ → ℕ) (n i : ℕ) → i < n → test i ≡ true → f i ≤ sum_where test f n
unfolding sum_where
sum_where-place test f n i l e =
    omega (arith, sum_to-place (λ j. cond (test j) (f j) 0) n i l, cond-true (test i) (f i) 0 e)

cond-ordered : (t : Bool) (a b : ℕ) → a ≤ b → cond t a 0 ≤ cond t b 0
cond-ordered true a b h = h
cond-ordered false a b h = le_refl 0

-- where the values are ordered and the sums are equal, so is each value at a place that passes
pub sum_where-tight : (test : ℕ → Bool) (f g : ℕ → ℕ) (n : ℕ) → ((i : ℕ) → i < n → f i ≤ g i)
    → sum_where test g n ≤ sum_where test f n → (i : ℕ) → i < n → test i ≡ true → g i ≤ f i
unfolding sum_where
sum_where-tight test f g n h e i l t =
    rw (← cond-true (test i) (f i) 0 t, ← cond-true (test i) (g i) 0 t)
    (sum_to-tight _ _ n (λ j m. cond-ordered (test j) (f j) (g j) (h j m)) e i l)

-- a sum that is not 0 has a place that passes
pub sum_where-found : (test : ℕ → Bool) (f : ℕ → ℕ) (n : ℕ)
    → 0 < sum_where test f n → (i : ℕ) × (i < n) × (test i ≡ true)
sum_where-found test f zero h = absurd (omega (arith, sum_where-zero test f))
sum_where-found test f (suc n) h =
    by-test (test n)
    (λ e. (n, omega arith, e))
    (λ e.
    let r = sum_where-found test f n (omega (arith, sum_where-suc test f n, cond-false (test n) (f n) 0 e)) in
    (r.0, omega (arith, r.1), r.2))
