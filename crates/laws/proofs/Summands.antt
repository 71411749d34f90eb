-- Laws of `sum_where` on what is summed, at the places that pass the test.
--
-- In order: equal summands; summands that are ordered; two sums added; a factor; ones to count.
-- Assumes nothing.
use mathlib.Core.Path.{◌≡◌, refl, sym, ◌∙◌}
use mathlib.Core.Bool.{Bool, true, false, cond, ◌&&◌}
use Prim.Native.Nat.{ℕ, ◌+◌, ◌*◌, ◌≤◌, ◌<◌}
use native.Mathlib.Nat.{le_refl, mul_comm, mul-zero}
use Rattle.laws.specs.Sum.{sum_where, count_where}
use Rattle.laws.proofs.Sums.{sum_to-ext, sum_to-mono, sum_to-add, sum_to-mul}

cond-agree : (t : Bool) (a b : ℕ) → (t ≡ true → a ≡ b) → cond t a 0 ≡ cond t b 0
cond-agree true a b h = h refl
cond-agree false a b h = refl

-- equal summands give equal sums
pub sum_where-ext : (test : ℕ → Bool) (f g : ℕ → ℕ) (n : ℕ)
    → ((i : ℕ) → i < n → test i ≡ true → f i ≡ g i) → sum_where test f n ≡ sum_where test g n
unfolding sum_where
sum_where-ext test f g n h = sum_to-ext _ _ n (λ i l. cond-agree (test i) (f i) (g i) (h i l))

cond-mono : (t : Bool) (a b : ℕ) → (t ≡ true → a ≤ b) → cond t a 0 ≤ cond t b 0
cond-mono true a b h = h refl
cond-mono false a b h = le_refl 0

-- summands that are no larger give a sum that is no larger
pub sum_where-mono : (test : ℕ → Bool) (f g : ℕ → ℕ) (n : ℕ)
    → ((i : ℕ) → i < n → test i ≡ true → f i ≤ g i) → sum_where test f n ≤ sum_where test g n
unfolding sum_where
sum_where-mono test f g n h = sum_to-mono _ _ n (λ i l. cond-mono (test i) (f i) (g i) (h i l))

cond-add : (t : Bool) (a b : ℕ) → cond t (a + b) 0 ≡ cond t a 0 + cond t b 0
cond-add true a b = refl
cond-add false a b = refl

-- the sum of sums
pub sum_where-add : (test : ℕ → Bool) (f g : ℕ → ℕ) (n : ℕ)
    → sum_where test (λ i. f i + g i) n ≡ sum_where test f n + sum_where test g n
unfolding sum_where
sum_where-add test f g n = sum_to-ext _ _ n (λ i l. cond-add (test i) (f i) (g i)) ∙ sum_to-add _ _ n

cond-mul : (t : Bool) (a k : ℕ) → cond t (a * k) 0 ≡ k * cond t a 0
cond-mul true a k = mul_comm a k
cond-mul false a k = sym (mul-zero k)

-- a factor of each summand is a factor of the sum
pub sum_where-mul : (test : ℕ → Bool) (f : ℕ → ℕ) (k n : ℕ)
    → sum_where test (λ i. f i * k) n ≡ sum_where test f n * k
unfolding sum_where
sum_where-mul test f k n =
    sum_to-ext _ _ n (λ i l. cond-mul (test i) (f i) k) ∙ sum_to-mul k _ n ∙ mul_comm k _

cond-and : (s t : Bool) (v : ℕ) → cond s (cond t v 0) 0 ≡ cond (s && t) v 0
cond-and true t v = refl
cond-and false t v = refl

-- a one for each place that passes a second test counts the places that pass both
pub sum_where-ones : (s t : ℕ → Bool) (n : ℕ) → sum_where s (λ i. cond (t i) 1 0) n ≡ count_where (λ i. s i && t i) n
unfolding sum_where count_where
sum_where-ones s t n = sum_to-ext _ _ n (λ i l. cond-and (s i) (t i) 1)
