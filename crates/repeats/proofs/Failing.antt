-- Laws of `first_failing`: the first of n places that fails a test.
--
-- In order: none fails; a place that fails after places that pass; one more place that passes; one of the two is the case;
-- the answer is at most n; tests that agree.
-- Assumes nothing.
use mathlib.Core.Path.{◌≡◌, refl, sym, ap₂, ◌∙◌}
use mathlib.Core.Bool.{Bool, true, false, cond, ◌&&◌}
use Prim.Native.Nat.{ℕ, zero, suc, ◌+◌, ◌≤◌, ◌<◌}
use native.Mathlib.Nat.{not-suc-le-zero}
use native.Mathlib.Numerals.{add-one}
use native.Mathlib.Omega.{arith}
use Rattle.laws.specs.Sum.{every}
use Rattle.laws.proofs.Cases.{by_order, by-test, cond-true, cond-false, and_left, and_right, and-true}
use Rattle.laws.proofs.Everys.{every-zero, every-suc, every-false}
use Rattle.repeats.specs.inner.Repeats.{first_failing}

failing-zero : (test : ℕ → Bool) → first_failing test 0 ≡ 0
unfolding first_failing
failing-zero test = refl

failing-suc : (test : ℕ → Bool) (n : ℕ)
    → first_failing test (suc n) ≡ cond (every test n) (cond (test n) (suc n) n) (first_failing test n)
unfolding first_failing
failing-suc test n = refl

-- where every place passes there is none
pub failing-none : (test : ℕ → Bool) (n : ℕ) → every test n ≡ true → first_failing test n ≡ n
failing-none test zero e = failing-zero test
failing-none test (suc n) e =
    let both : every test n && test n ≡ true = sym (every-suc test n) ∙ e in
    failing-suc test n
    ∙ cond-true _ _ _ (and_left (every test n) (test n) both)
    ∙ cond-true _ _ _ (and_right (every test n) (test n) both)

-- the last place fails, where every place before it passes
failing-last : (test : ℕ → Bool) (n : ℕ) → every test n ≡ true → test n ≡ false → first_failing test (suc n) ≡ n
failing-last test n e f = failing-suc test n ∙ cond-true _ _ _ e ∙ cond-false _ _ _ f

-- a place that fails, where every place before it passes
pub failing-at : (test : ℕ → Bool) (n i : ℕ) → i < n → every test i ≡ true → test i ≡ false → first_failing test n ≡ i
failing-at test zero i l e f = absurd (not-suc-le-zero l)
failing-at test (suc n) i l e f =
    by_order n i
    (λ h. let same : i ≡ n = omega arith in failing-last test n (rw same at e) (rw same at f) ∙ sym same)
    (λ h. failing-suc test n ∙ cond-false _ _ _ (every-false test n i h f) ∙ failing-at test n i h e f)

-- one more place that passes
every-last : (test : ℕ → Bool) (n : ℕ) → every test n ≡ true → test n ≡ true → every test (suc n) ≡ true
every-last test n e t = every-suc test n ∙ and-true (every test n) (test n) e t

-- the same as the code counts
pub every_more : (test : ℕ → Bool) (n : ℕ) → every test n ≡ true → test n ≡ true → every test (n + 1) ≡ true
every_more test n e t = rw add-one (every-last test n e t)

-- every place passes, or one fails after places that pass
pub by-failing {ℓ} : {X : Type ℓ} (test : ℕ → Bool) (n : ℕ)
    → (every test n ≡ true → X) → ((i : ℕ) → i < n → every test i ≡ true → test i ≡ false → X) → X
by-failing test zero f g = f (every-zero test)
by-failing test (suc n) f g =
    by-failing test n
    (λ e. by-test (test n) (λ t. f (every-last test n e t)) (λ t. g n (omega arith) e t))
    (λ i l e t. g i (omega arith) e t)

-- it is among the n places, or n
pub failing-le : (test : ℕ → Bool) (n : ℕ) → first_failing test n ≤ n
failing-le test n =
    by-failing test n
    (λ e. omega (arith, failing-none test n e))
    (λ i l e t. omega (arith, failing-at test n i l e t))

-- tests that agree at each of the n places
pub every-ext : (test other : ℕ → Bool) (n : ℕ) → ((i : ℕ) → i < n → test i ≡ other i) → every test n ≡ every other n
every-ext test other zero h = every-zero test ∙ sym (every-zero other)
every-ext test other (suc n) h =
    every-suc test n
    ∙ ap₂ ◌&&◌ (every-ext test other n (λ i l. h i (omega arith))) (h n (omega arith))
    ∙ sym (every-suc other n)

pub failing-ext : (test other : ℕ → Bool) (n : ℕ)
    → ((i : ℕ) → i < n → test i ≡ other i) → first_failing test n ≡ first_failing other n
failing-ext test other zero h = failing-zero test ∙ sym (failing-zero other)
failing-ext test other (suc n) h =
    let before : (i : ℕ) → i < n → test i ≡ other i = λ i l. h i (omega arith) in
    rw (failing-suc test n, failing-suc other n, every-ext test other n before, h n (omega arith), failing-ext test other n before)
