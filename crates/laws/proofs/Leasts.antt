-- Laws of `least_where`: what it is, and that it is alone.
-- Assumes nothing.
use mathlib.Core.Path.{◌≡◌, refl, sym, ap, ◌∙◌}
use mathlib.Core.Bool.{Bool, true, false, cond, true≢false}
use mathlib.Core.Option.{Option, none, some}
use Prim.Native.Nat.{ℕ, zero, suc, ◌≤◌, ◌<◌}
use native.Mathlib.Nat.{le_antisymm, le_of_lt, le_refl, min-eq_left, min-eq_right, not-suc-le-zero}
use native.Mathlib.Omega.{arith}
use Rattle.laws.specs.Largest.{least_where, lesser}
use Rattle.laws.proofs.Cases.{by_order, by-test, cond-true, cond-false}
use Rattle.laws.proofs.Compare.{up-to-last}

-- the least value of f at those of the first n places that pass `test`
pub record IsLeast (test : ℕ → Bool) (f : ℕ → ℕ) (n m : ℕ) : Type 0 where
  -- it stands at one of the places
  pub place : ℕ
  pub within : place < n
  pub passes : test place ≡ true
  pub value : f place ≡ m
  -- no place that passes has less
  pub lowest : (i : ℕ) → i < n → test i ≡ true → m ≤ f i

-- the least value, or that no place passes
abbrev pub Least : (ℕ → Bool) → (ℕ → ℕ) → ℕ → Option ℕ → Type 0
Least test f n none = (i : ℕ) → i < n → test i ≡ false
Least test f n (some m) = IsLeast test f n m

least_where-zero : (test : ℕ → Bool) (f : ℕ → ℕ) → least_where test f 0 ≡ none
unfolding least_where
least_where-zero test f = refl

least_where-suc : (test : ℕ → Bool) (f : ℕ → ℕ) (n : ℕ)
    → least_where test f (suc n) ≡ cond (test n) (some (lesser (f n) (least_where test f n))) (least_where test f n)
unfolding least_where
least_where-suc test f n = refl

module _ (test : ℕ → Bool) (f : ℕ → ℕ) (n : ℕ) where
  -- the least value stays, where the next place has no less or fails
  next-keeps : {m : ℕ} → IsLeast test f n m → (test n ≡ true → m ≤ f n) → IsLeast test f (suc n) m
  next-keeps {m} r h =
      record {
        place = r.place;
        within = omega (arith, r.within);
        passes = r.passes;
        value = r.value;
        lowest = up-to-last (λ i. test i ≡ true → m ≤ f i) n r.lowest h;
      }

  -- the next place is the least, where no other that passes has less
  next-least : test n ≡ true → ((i : ℕ) → i < n → test i ≡ true → f n ≤ f i) → IsLeast test f (suc n) (f n)
  next-least e h =
      record {
        place = n;
        within = le_refl (suc n);
        passes = e;
        value = refl;
        lowest = up-to-last (λ i. test i ≡ true → f n ≤ f i) n h (λ t. le_refl (f n));
      }

  next-fails : (rest : Option ℕ) → test n ≡ false → Least test f n rest → Least test f (suc n) rest
  next-fails none e r = up-to-last (λ i. test i ≡ false) n r e
  next-fails (some m) e r = next-keeps r (λ t. absurd (true≢false (sym t ∙ e)))

  next-passes : (rest : Option ℕ) → test n ≡ true → Least test f n rest → IsLeast test f (suc n) (lesser (f n) rest)
  next-passes none e r = next-least e (λ i l t. absurd (true≢false (sym t ∙ r i l)))
  next-passes (some m) e r =
      by_order (f n) m
      (λ h. rw min-eq_left (next-least e (λ i l t. omega (arith, r.lowest i l t))))
      (λ h. rw (min-eq_right (le_of_lt h)) (next-keeps r (λ t. le_of_lt h)))

-- `least_where` is the least value
pub least_where-is : (test : ℕ → Bool) (f : ℕ → ℕ) (n : ℕ) → Least test f n (least_where test f n)
least_where-is test f zero = rw least_where-zero (λ i l. absurd (not-suc-le-zero l))
least_where-is test f (suc n) =
    rw least_where-suc
    (by-test (test n)
    (λ e. rw cond-true (next-passes test f n (least_where test f n) e (least_where-is test f n)))
    (λ e. rw cond-false (next-fails test f n (least_where test f n) e (least_where-is test f n))))

least-order : (test : ℕ → Bool) (f : ℕ → ℕ) (n a b : ℕ) → IsLeast test f n a → IsLeast test f n b → a ≤ b
least-order test f n a b r s = omega (arith, r.lowest s.place s.within s.passes, s.value)

-- there is one answer
pub least-alone : (test : ℕ → Bool) (f : ℕ → ℕ) (n : ℕ) (a b : Option ℕ) → Least test f n a → Least test f n b → a ≡ b
least-alone test f n none none r s = refl
least-alone test f n none (some b) r s = absurd (true≢false (sym s.passes ∙ r s.place s.within))
least-alone test f n (some a) none r s = absurd (true≢false (sym r.passes ∙ s r.place r.within))
least-alone test f n (some a) (some b) r s =
    ap some (le_antisymm (least-order test f n a b r s) (least-order test f n b a s r))
