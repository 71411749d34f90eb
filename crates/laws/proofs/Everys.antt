-- Laws of `every`.
--
-- In order: no place, one more place; a test that every place passes, at one of them, and shown at each; a place that fails
-- it; numbers whose sum is 0.
-- Assumes nothing.
use mathlib.Core.Path.{◌≡◌, refl, sym, ap, ◌∙◌}
use mathlib.Core.Bool.{Bool, true, false, ◌&&◌, true≢false}
use Prim.Native.Nat.{ℕ, zero, suc, ◌+◌, ◌<◌}
use native.Mathlib.Nat.{not-suc-le-zero, zero-add, suc-add}
use native.Mathlib.Omega.{arith}
use lib.Dec.{eqb, eqb-suc-zero}
use borrow.Author.Tests.{eq-eqb}
use Rattle.laws.specs.Sum.{sum_to, every}
use Rattle.laws.proofs.Cases.{by_order, by-test, and-true, and_left, and_right}
use Rattle.laws.proofs.Sums.{sum_to-zero, sum_to-suc}

pub every-zero : (test : ℕ → Bool) → every test 0 ≡ true
unfolding every
every-zero test = refl

pub every-suc : (test : ℕ → Bool) (n : ℕ) → every test (suc n) ≡ every test n && test n
unfolding every
every-suc test n = refl

-- where every place passes, each does
pub every-at : (test : ℕ → Bool) (n i : ℕ) → every test n ≡ true → i < n → test i ≡ true
every-at test zero i e l = absurd (not-suc-le-zero l)
every-at test (suc n) i e l =
    let both : every test n && test n ≡ true = sym (every-suc test n) ∙ e in
    by_order n i
    (λ h. let same : i ≡ n = omega arith in rw same (and_right (every test n) (test n) both))
    (λ h. every-at test n i (and_left (every test n) (test n) both) h)

-- and where each does, every place passes
pub every-all : (test : ℕ → Bool) (n : ℕ) → ((i : ℕ) → i < n → test i ≡ true) → every test n ≡ true
every-all test zero h = every-zero test
every-all test (suc n) h =
    every-suc test n ∙ and-true (every test n) (test n) (every-all test n (λ i l. h i (omega arith))) (h n (omega arith))

-- where one place fails, not every place passes
pub every-false : (test : ℕ → Bool) (n i : ℕ) → i < n → test i ≡ false → every test n ≡ false
every-false test n i l e =
    by-test (every test n) (λ h. absurd (true≢false (sym (every-at test n i h l) ∙ e))) (λ h. h)

-- two numbers add up to 0 exactly where both are 0
eqb-add-zero : (a b : ℕ) → eqb (a + b) 0 ≡ eqb a 0 && eqb b 0
eqb-add-zero zero b = rw zero-add
eqb-add-zero (suc a) b = simp (suc-add, eqb-suc-zero)

-- and so do any number of them
pub every-sum_to : (f : ℕ → ℕ) (n : ℕ) → eqb (sum_to f n) 0 ≡ every (λ i. eqb (f i) 0) n
every-sum_to f zero = eq-eqb (sum_to f 0) 0 (sum_to-zero f) ∙ sym (every-zero (λ i. eqb (f i) 0))
every-sum_to f (suc n) =
    ap (λ (k : ℕ). eqb k 0) (sum_to-suc f n)
    ∙ eqb-add-zero (sum_to f n) (f n)
    ∙ ap (λ (t : Bool). t && eqb (f n) 0) (every-sum_to f n)
    ∙ sym (every-suc (λ i. eqb (f i) 0) n)
