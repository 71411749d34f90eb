-- Laws of `largest`: what it is, that it is alone, and how a search by halves finds it.
-- Assumes nothing.
use mathlib.Core.Path.{◌≡◌, refl, sym, ap, ◌∙◌}
use mathlib.Core.Bool.{Bool, true, false, cond, true≢false}
use Prim.Native.Nat.{ℕ, zero, suc, ◌≤◌, ◌<◌}
use native.Mathlib.Nat.{le_antisymm, le_refl, not-suc-le-zero}
use native.Mathlib.Omega.{arith}
use Rattle.laws.specs.Largest.{largest}
use Rattle.laws.proofs.Cases.{by_order, by-test, cond-true, cond-false}
use Rattle.laws.proofs.Compare.{le-unless}

largest-zero : (test : ℕ → Bool) → largest test 0 ≡ 0
unfolding largest
largest-zero test = refl

largest-suc : (test : ℕ → Bool) (top : ℕ) → largest test (suc top) ≡ cond (test (suc top)) (suc top) (largest test top)
unfolding largest
largest-suc test top = refl

-- the largest number from 0 to `top` that passes a test, where 0 needs no test
pub record IsLargest (test : ℕ → Bool) (top x : ℕ) : Type 0 where
  -- it is in the range
  pub within : x ≤ top
  -- it passes, unless it is 0
  pub passes : 0 < x → test x ≡ true
  -- no greater number of the range passes
  pub past : (k : ℕ) → k ≤ top → test k ≡ true → k ≤ x

top-passes : (test : ℕ → Bool) (top : ℕ) → test top ≡ true → IsLargest test top top
top-passes test top e = record { within = le_refl top; passes = λ l. e; past = λ k l f. l }

top-fails : (test : ℕ → Bool) (top x : ℕ) → test (suc top) ≡ false → IsLargest test top x → IsLargest test (suc top) x
top-fails test top x e r =
    record {
      within = omega arith;
      passes = r.passes;
      past = λ k l f. by_order k top (λ h. r.past k h f) (λ h. absurd (true≢false (cc (ap test (le_antisymm l h)))));
    }

-- `largest` is the largest number that passes
pub largest-is : (test : ℕ → Bool) (top : ℕ) → IsLargest test top (largest test top)
largest-is test zero =
    rw largest-zero (record { within = le_refl 0; passes = λ l. absurd (not-suc-le-zero l); past = λ k l e. l })
largest-is test (suc top) =
    rw largest-suc
    (by-test (test (suc top))
    (λ e. rw cond-true (top-passes test (suc top) e))
    (λ e. rw cond-false (top-fails test top (largest test top) e (largest-is test top))))

-- where 0 passes, so does the largest
pub largest-passes : (test : ℕ → Bool) (top : ℕ) → test 0 ≡ true → test (largest test top) ≡ true
largest-passes test top e =
    by_order (largest test top) 0 (λ h. cc (ap test (le_antisymm h (omega arith)))) (largest-is test top).passes

-- where every greater number fails, one that passes is no greater
pub fails-past : (test : ℕ → Bool) (top x : ℕ)
    → ((k : ℕ) → x < k → k ≤ top → test k ≡ false) → (k : ℕ) → k ≤ top → test k ≡ true → k ≤ x
fails-past test top x fails k l e = le-unless k x (λ h. true≢false (sym e ∙ fails k h l))

largest-order : (test : ℕ → Bool) (top x y : ℕ) → IsLargest test top x → IsLargest test top y → x ≤ y
largest-order test top x y r s =
    by_order x y (λ h. h) (λ h. s.past x r.within (r.passes (omega arith)))

-- there is one largest number that passes
pub largest-alone : (test : ℕ → Bool) (top x : ℕ) → IsLargest test top x → x ≡ largest test top
largest-alone test top x r =
    let s = largest-is test top in
    le_antisymm (largest-order test top x _ r s) (largest-order test top _ x s r)

-- a test that, up to `top`, never passes at a number and fails at the one before
abbrev pub Closed : (ℕ → Bool) → ℕ → Type 0
Closed test top = (k : ℕ) → k < top → test (suc k) ≡ true → test k ≡ true

-- a closed test passes at every number under one that passes
pub closed-down : (test : ℕ → Bool) (top : ℕ) → Closed test top
    → (j k : ℕ) → j ≤ k → k ≤ top → test k ≡ true → test j ≡ true
closed-down test top c j zero h l e = cc (ap test (le_antisymm h (omega arith)))
closed-down test top c j (suc k) h l e =
    by_order j k
    (λ g. closed-down test top c j k g (omega arith) (c k l e))
    (λ g. cc (ap test (le_antisymm h g)))

-- what a search by halves ends with: of a closed test, a number that passes while the next one fails is the largest
pub largest-found : (test : ℕ → Bool) (top x : ℕ) → Closed test top
    → x ≤ top → (0 < x → test x ≡ true) → (x < top → test (suc x) ≡ false) → x ≡ largest test top
largest-found test top x c l e f =
    largest-alone test top x
    (record {
      within = l;
      passes = e;
      past = λ k m g.
          le-unless k x (λ h. true≢false (sym (closed-down test top c (suc x) k h m g) ∙ f (omega arith)));
    })
