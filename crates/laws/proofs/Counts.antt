-- Laws of `count_where`.
--
-- In order: one place more; tests that agree, everywhere or at some places; a test that implies another counts at most as
-- many places, and fewer where one place passes the other alone.
-- Assumes nothing.
use mathlib.Core.Path.{◌≡◌, refl, sym, ap, ◌∙◌}
use mathlib.Core.Bool.{Bool, true, false, cond, ◌&&◌, ◌||◌, true≢false}
use Prim.Native.Nat.{ℕ, suc, ◌+◌, ◌≤◌, ◌<◌}
use native.Mathlib.Omega.{arith}
use lib.Dec.{eqb}
use borrow.Author.Tests.{eqb-true, eq-eqb, ne_eqb}
use Rattle.laws.specs.Sum.{count_where}
use Rattle.laws.proofs.Cases.{by-test, cond-true, cond-false}
use Rattle.laws.proofs.Where.{sum_where-zero, sum_where-suc, sum_where-same}
use Rattle.laws.proofs.Where.{sum_where-implied, sum_where-either, sum_where-place}

-- no place, none to count
pub count_where-zero : (test : ℕ → Bool) → count_where test 0 ≡ 0
unfolding count_where
count_where-zero test = sum_where-zero test (λ i. 1)

-- one place more counts if it passes
pub count_where-suc : (test : ℕ → Bool) (n : ℕ) → count_where test (suc n) ≡ count_where test n + cond (test n) 1 0
unfolding count_where
count_where-suc test n = sum_where-suc test (λ i. 1) n

-- where it passes there is one more, where it does not the count is kept
pub count_where-more : (test : ℕ → Bool) (n : ℕ) → test n ≡ true → count_where test (suc n) ≡ suc (count_where test n)
count_where-more test n e = omega (arith, count_where-suc test n, cond-true {X = ℕ} (test n) 1 0 e)

pub count_where-kept : (test : ℕ → Bool) (n : ℕ) → test n ≡ false → count_where test (suc n) ≡ count_where test n
count_where-kept test n e = omega (arith, count_where-suc test n, cond-false {X = ℕ} (test n) 1 0 e)

and-agree : (w s t : Bool) → (w ≡ true → s ≡ t) → w && s ≡ w && t
and-agree true s t h = h refl
and-agree false s t h = refl

-- tests that agree at the places within
pub count_where-within : (within s t : ℕ → Bool) (n : ℕ)
    → ((i : ℕ) → i < n → within i ≡ true → s i ≡ t i)
    → count_where (λ i. within i && s i) n ≡ count_where (λ i. within i && t i) n
unfolding count_where
count_where-within within s t n h = sum_where-same _ _ (λ i. 1) n (λ i l. and-agree (within i) (s i) (t i) (h i l))

-- where s implies t, no more places pass s than t
pub count_where-mono : (s t : ℕ → Bool) (n : ℕ)
    → ((i : ℕ) → i < n → s i ≡ true → t i ≡ true) → count_where s n ≤ count_where t n
unfolding count_where
count_where-mono s t n h = sum_where-implied s t (λ i. 1) n h

module _ (s t : ℕ → Bool) (n k : ℕ) (implies : (i : ℕ) → i < n → s i ≡ true → t i ≡ true) where
  apart : s k ≡ false → (i : ℕ) → s i ≡ true → eqb i k ≡ false
  apart e i a = ne_eqb i k (λ q. true≢false (sym a ∙ ap s q ∙ e))

  joined : t k ≡ true → (i : ℕ) → i < n → s i || eqb i k ≡ true → t i ≡ true
  joined f i l c = by-test (s i) (implies i l) (λ a. ap t (eqb-true i k (rw a at c)) ∙ f)

  -- s implies t, and the place k passes t and not s: so s with k is still within t
  pub count_where-less : k < n → s k ≡ false → t k ≡ true → count_where s n < count_where t n
  unfolding count_where
  count_where-less l e f =
      omega (
        arith,
        sum_where-either s (λ i. eqb i k) (λ i. 1) n (λ i m. apart e i),
        sum_where-implied (λ i. s i || eqb i k) t (λ i. 1) n (joined f),
        sum_where-place (λ i. eqb i k) (λ i. 1) n k l (eq-eqb k k refl),
      )
