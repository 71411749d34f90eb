-- The first place that passes a test.
--
-- In order: what it is, that `first_where` finds it, and that it is alone; a place found by going through those before it, and none
-- found; what a place says that was found; an answer
-- that was searched for.
-- Assumes nothing.
use mathlib.Core.Path.{◌≡◌, refl, sym, ap, subst, ◌∙◌}
use mathlib.Core.Bool.{Bool, true, false, cond, true≢false}
use Prim.Native.Nat.{ℕ, zero, suc, ◌≤◌, ◌<◌, zero-le}
use native.Mathlib.Nat.{le_refl, not-suc-le-zero}
use native.Mathlib.Omega.{arith}
use Rattle.laws.proofs.Cases.{by-test, cond-true, cond-false}
use Rattle.laws.proofs.Compare.{by-comparison, up-to-last}
use Rattle.std.specs.Prelude.{Some, None, MatchOption}
use Rattle.std.specs.declared.option.Option.{Option}
use Rattle.turns.specs.Order.{or_else, first_where}

-- i is the first of n places that passes `test`
pub record IsFirst (test : ℕ → Bool) (n i : ℕ) : Type 0 where
  pub within : i < n
  pub passes : test i ≡ true
  pub earliest : (j : ℕ) → j < i → test j ≡ false

-- the first that passes, or that none does
abbrev First : (ℕ → Bool) → ℕ → Option ℕ → Type 0
First test n None = (i : ℕ) → i < n → test i ≡ false
First test n (Some i) = IsFirst test n i

module _ (test : ℕ → Bool) where
  first-suc : (n : ℕ) → first_where test (suc n) ≡ or_else (first_where test n) (cond (test n) (Some n) None)
  unfolding first_where
  first-suc n = refl

  first-start : first_where test 0 ≡ None
  unfolding first_where
  first-start = refl

  first_more : (n : ℕ) (v : Option ℕ) → First test n v → First test (suc n) (or_else v (cond (test n) (Some n) None))
  first_more n None r =
      by-test (test n)
      (λ t.
      subst (First test (suc n)) (sym (cond-true (test n) (Some n) None t))
      (record { within = le_refl (suc n); passes = t; earliest = r }))
      (λ t.
      subst (First test (suc n)) (sym (cond-false (test n) (Some n) None t)) (up-to-last (λ i. test i ≡ false) n r t))
  first_more n (Some i) r =
      record { within = omega (arith, r.within); passes = r.passes; earliest = r.earliest }

  -- `first_where` finds it
  first_holds : (n : ℕ) → First test n (first_where test n)
  first_holds zero = subst (First test 0) (sym first-start) (λ i l. absurd (not-suc-le-zero l))
  first_holds (suc n) = subst (First test (suc n)) (sym (first-suc n)) (first_more n (first_where test n) (first_holds n))

  clash : {X : Type 0} (i : ℕ) → test i ≡ true → test i ≡ false → X
  clash i t f = absurd (true≢false (sym t ∙ f))

  -- and it is alone
  first_alone : (n : ℕ) (v w : Option ℕ) → First test n v → First test n w → v ≡ w
  first_alone n None None r s = refl
  first_alone n None (Some i) r s = clash i s.passes (r i s.within)
  first_alone n (Some i) None r s = clash i r.passes (s i r.within)
  first_alone n (Some i) (Some j) r s =
      by-comparison i j
      (λ l. clash i r.passes (s.earliest i l))
      (λ e. ap Some e)
      (λ l. clash j s.passes (r.earliest j l))

  -- a place that passes where none before it does
  first_found : (n i : ℕ) → i < n → test i ≡ true → ((j : ℕ) → j < i → test j ≡ false) → first_where test n ≡ Some i
  first_found n i l t before =
      first_alone n (first_where test n) (Some i) (first_holds n) (record { within = l; passes = t; earliest = before })

  -- none, where every place fails
  pub first-none : (n : ℕ) → ((j : ℕ) → j < n → test j ≡ false) → first_where test n ≡ None
  first-none n fail = first_alone n (first_where test n) None (first_holds n) fail

  -- what is said of a place that was found, and of none
  pub first-place : (n i : ℕ) → first_where test n ≡ Some i → IsFirst test n i
  first-place n i e = subst (First test n) e (first_holds n)

  pub first-fails : (n : ℕ) → first_where test n ≡ None → (i : ℕ) → i < n → test i ≡ false
  first-fails n e = subst (First test n) e (first_holds n)

  -- an answer that is the first place that passes, or none where none does
  pub first-answer : (n : ℕ) (r : Option ℕ)
      → MatchOption r ((k : ℕ) → 0 ≤ k → k < n → test k ≡ false)
      (λ i. (0 ≤ i) × (i < n) × (test i ≡ true) × ((k : ℕ) → 0 ≤ k → k < i → test k ≡ false))
      → r ≡ first_where test n
  first-answer n None f = sym (first-none n (λ j l. f j zero-le l))
  first-answer n (Some i) f = sym (first_found n i f.1 f.2 (λ j l. f.3 j zero-le l))
