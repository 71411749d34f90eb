-- Of n tests none refuses, or one does after tests that pass.
--
-- In order: a verdict that passes or refuses; a row of tests; fewer tests of a row that passes.
-- Assumes nothing.
use mathlib.Core.Path.{◌≡◌, refl, ◌∙◌}
use Prim.Native.Nat.{ℕ, zero, suc, ◌≤◌, ◌<◌}
use native.Mathlib.Omega.{arith}
use Rattle.std.specs.Prelude.{Err, Ok}
use Rattle.values.specs.Refusals.{first, Verdict, no_fault}
use Rattle.values.proofs.Firsts.{and_then-next, first-zero, first-suc, first-at}
use Rattle.values.specs.declared.refusal.Refusal.{Refusal}

by-verdict {ℓ} : {X : Type ℓ} (v : Verdict)
    → (v ≡ no_fault → X) → ((refusal : Refusal) → v ≡ Err refusal → X) → X
by-verdict (Ok u) f g = f refl
by-verdict (Err refusal) f g = g refusal refl

-- one more test that passes
first-last : (test : ℕ → Verdict) (n : ℕ) → first test n ≡ no_fault → test n ≡ no_fault → first test (suc n) ≡ no_fault
first-last test n e t = first-suc test n ∙ and_then-next (first test n) (test n) e ∙ t

-- none of n tests refuses, or one does after tests that pass
pub by_first {ℓ} : {X : Type ℓ} (test : ℕ → Verdict) (n : ℕ)
    → (first test n ≡ no_fault → X)
    → ((i : ℕ) (refusal : Refusal) → i < n → first test i ≡ no_fault → test i ≡ Err refusal → X)
    → X
by_first test zero f g = f (first-zero test)
by_first test (suc n) f g =
    by_first test n
    (λ e. by-verdict (test n) (λ t. f (first-last test n e t)) (λ refusal t. g n refusal (omega arith) e t))
    (λ i refusal l e t. g i refusal (omega arith) e t)

-- tests that pass all pass where there are fewer of them
pub first-fewer : (test : ℕ → Verdict) (n m : ℕ) → m ≤ n → first test n ≡ no_fault → first test m ≡ no_fault
first-fewer test n m l e =
    by_first test m
    (λ f. f)
    (λ i refusal k f t. let passed : test i ≡ no_fault = first-at test n i e (omega arith) in cc)
