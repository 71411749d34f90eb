-- Laws of tests that follow one another: `unless`, `and_then`, `first`.
--
-- In order: a test that holds, and one that doesn't; what `unless` says of its test, and of a test that the code answered;
-- two tests, of which the first passed or refused, and both passed; a row of tests: none, one more, each passed, the
-- earliest refusal, equal tests.
-- Assumes nothing.
use mathlib.Core.Path.{◌≡◌, refl, sym, ap₂, ◌∙◌}
use mathlib.Core.Bool.{Bool, true, false, not}
use Prim.Native.Nat.{ℕ, zero, suc, ◌+◌, ◌≤◌, ◌<◌}
use native.Mathlib.Nat.{not-suc-le-zero}
use native.Mathlib.Numerals.{add-one}
use native.Mathlib.Omega.{arith}
use borrow.Author.Tests.{not-true, not-false}
use Rattle.laws.proofs.Cases.{by_order}
use Rattle.std.specs.Prelude.{Ok, Err, is_ok}
use Rattle.std.specs.Result.{result_and}
use Rattle.values.specs.Refusals.{Tested, no_fault, unless, and_then, first}

module _ {E : Type 0} where
  -- ---- one test

  pub unless-true : (t : Bool) (v : Tested E) → t ≡ true → unless t v ≡ no_fault
  unless-true true v e = refl
  unless-true false v e = cc

  pub unless-false : (t : Bool) (v : Tested E) → t ≡ false → unless t v ≡ v
  unless-false true v e = cc
  unless-false false v e = refl

  -- where a test that would refuse passes, it holds
  pub unless-passed : (t : Bool) (fault : E) → unless t (Err fault) ≡ no_fault → t ≡ true
  unless-passed true fault e = refl
  unless-passed false fault e = cc

  -- the code's `is_ok` of a test
  pub is_ok-passed : (v : Tested E) → is_ok v ≡ true → v ≡ no_fault
  is_ok-passed (Ok u) e = refl
  is_ok-passed (Err fault) e = cc

  -- a test that the code answers with r
  pub unless-held : {r t : Bool} (v : Tested E) → r ≡ t → not r ≡ false → unless t v ≡ no_fault
  unless-held {r} {t} v e h = unless-true t v (sym e ∙ not-false r h)

  pub unless-failed : {r t : Bool} (v : Tested E) → r ≡ t → not r ≡ true → unless t v ≡ v
  unless-failed {r} {t} v e h = unless-false t v (sym e ∙ not-true r h)

  -- ---- two tests

  -- the second decides where the first passed
  pub and_then-next : (v w : Tested E) → v ≡ no_fault → and_then v w ≡ w
  and_then-next (Ok u) w e = refl
  and_then-next (Err fault) w e = cc

  -- the first decides where it refused
  pub and_then-refused : (v w : Tested E) (fault : E) → v ≡ Err fault → and_then v w ≡ Err fault
  and_then-refused (Ok u) w fault e = cc
  and_then-refused (Err other) w fault e = e

  -- the code's `and` of two tests
  pub and-tests : (v w : Tested E) → result_and v w ≡ and_then v w
  and-tests (Ok u) w = refl
  and-tests (Err fault) w = refl

  -- where both pass, each does
  pub and_then-left : (v w : Tested E) → and_then v w ≡ no_fault → v ≡ no_fault
  and_then-left (Ok u) w e = refl
  and_then-left (Err fault) w e = e

  pub and_then-right : (v w : Tested E) → and_then v w ≡ no_fault → w ≡ no_fault
  and_then-right (Ok u) w e = e
  and_then-right (Err fault) w e = cc

  -- ---- a row of tests

  pub first-zero : (test : ℕ → Tested E) → first test 0 ≡ no_fault
  unfolding first
  first-zero test = refl

  pub first-suc : (test : ℕ → Tested E) (n : ℕ) → first test (suc n) ≡ and_then (first test n) (test n)
  unfolding first
  first-suc test n = refl

  -- one more test, as the code counts
  pub first-add-one : (test : ℕ → Tested E) (n : ℕ) → first test (n + 1) ≡ and_then (first test n) (test n)
  first-add-one test n = rw add-one (first-suc test n)

  -- where all that came before passed, the next test decides
  pub first_more : (test : ℕ → Tested E) (n : ℕ) → first test n ≡ no_fault → first test (n + 1) ≡ test n
  first_more test n e = first-add-one test n ∙ and_then-next (first test n) (test n) e

  -- a test that passes after all that came before passed
  pub first_on : (test : ℕ → Tested E) (n : ℕ) → first test n ≡ no_fault → test n ≡ no_fault → first test (n + 1) ≡ no_fault
  first_on test n e f = first_more test n e ∙ f

  -- where a row of tests passes, each of them does
  pub first-at : (test : ℕ → Tested E) (n i : ℕ) → first test n ≡ no_fault → i < n → test i ≡ no_fault
  first-at test zero i e l = absurd (not-suc-le-zero l)
  first-at test (suc n) i e l =
      let both : and_then (first test n) (test n) ≡ no_fault = sym (first-suc test n) ∙ e in
      by_order n i
      (λ h. let same : i ≡ n = omega arith in rw same (and_then-right (first test n) (test n) both))
      (λ h. first-at test n i (and_then-left (first test n) (test n) both) h)

  -- where each of a row of tests passes, all do
  pub first-all : (test : ℕ → Tested E) (n : ℕ) → ((i : ℕ) → i < n → test i ≡ no_fault) → first test n ≡ no_fault
  first-all test zero h = first-zero test
  first-all test (suc n) h =
      first-suc test n
      ∙ and_then-next (first test n) (test n) (first-all test n (λ i l. h i (omega arith)))
      ∙ h n (omega arith)

  -- what refused among the first n tests stays the answer among more of them
  pub first-stays : (test : ℕ → Tested E) (n m : ℕ) (fault : E) → n ≤ m
      → first test n ≡ Err fault → first test m ≡ Err fault
  first-stays test n zero fault l e = let none : n ≡ 0 = omega arith in rw none at e
  first-stays test n (suc m) fault l e =
      by_order n m
      (λ h. first-suc test m
      ∙ and_then-refused (first test m) (test m) fault (first-stays test n m fault h e))
      (λ h. let last : n ≡ suc m = omega arith in rw last at e)

  -- the answer is the first refusal: the tests before it passed
  pub first-refused : (test : ℕ → Tested E) (n i : ℕ) (fault : E) → i < n
      → first test i ≡ no_fault → test i ≡ Err fault → first test n ≡ Err fault
  first-refused test n i fault l e f =
      first-stays test (i + 1) n fault (omega arith) (first_more test i e ∙ f)

  -- tests that answer alike at each of the first n places
  pub first-ext : (test other : ℕ → Tested E) (n : ℕ)
      → ((i : ℕ) → i < n → test i ≡ other i) → first test n ≡ first other n
  first-ext test other zero h = first-zero test ∙ sym (first-zero other)
  first-ext test other (suc n) h =
      first-suc test n
      ∙ ap₂ and_then (first-ext test other n (λ i l. h i (omega arith))) (h n (omega arith))
      ∙ sym (first-suc other n)

-- which of two tests decides, by what the first answered: for functions that hand on a fault by `?`
pub ruleset in_turn = (and_then-refused, and_then-next)

-- what a row of tests answers, by what came before and the test at hand: for loops that hand on a fault by `?`
pub ruleset in_rows = (first-zero, first_on, first-refused)
