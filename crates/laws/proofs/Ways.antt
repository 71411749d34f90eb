-- Code that leaves with `false` at the first of several tests that fails answers the conjunction of those tests.
--
-- In order: a test that another function answered, which failed or held; a number under a bound; a number that was read, at
-- most another or equal to it; `ways`, the set of these laws, with which `search` finds the way that led to a return; a
-- loop over places, which leaves at the first that fails: one more place, the way out, the end.
-- Assumes nothing.
use mathlib.Core.Path.{◌≡◌, sym, ◌∙◌}
use mathlib.Core.Bool.{Bool, true, false, not, ◌&&◌}
use Prim.Native.Nat.{ℕ, ◌+◌, ◌≤◌, ◌<◌}
use native.Mathlib.Numerals.{add-one}
use lib.Dec.{ltb, leb, eqb}
use borrow.Author.Tests.{lt-ltb, le-ltb, le-leb, lt-leb, eq-eqb, ne_eqb, not-true, not-false}
use Rattle.laws.specs.Sum.{every}
use Rattle.laws.proofs.Cases.{and-true}
use Rattle.laws.proofs.Everys.{every-suc, every-false}

stopped : (s t : Bool) → s ≡ false → false ≡ s && t
stopped s t e = rw e

went_on : (s t u : Bool) → s ≡ true → u ≡ t → u ≡ s && t
went_on s t u e h = rw e h

-- the answer r of a function that tests s
pub answer-failed : (r s t : Bool) → r ≡ s → not r ≡ true → false ≡ s && t
answer-failed r s t e h = stopped s t (sym e ∙ not-true r h)

pub answer-held : (r s t u : Bool) → r ≡ s → not r ≡ false → u ≡ t → u ≡ s && t
answer-held r s t u e h = went_on s t u (sym e ∙ not-false r h)

-- a number under a bound
pub under-failed : (m n : ℕ) (t : Bool) → n ≤ m → false ≡ ltb m n && t
under-failed m n t h = stopped (ltb m n) t (le-ltb m n h)

pub under-held : (m n : ℕ) (t u : Bool) → m < n → u ≡ t → u ≡ ltb m n && t
under-held m n t u h = went_on (ltb m n) t u (lt-ltb m n h)

-- a number r that was read as m, and is to be at most n
pub most-failed : (r m n : ℕ) (t : Bool) → r ≡ m → n < r → false ≡ leb m n && t
most-failed r m n t e h = stopped (leb m n) t (lt-leb m n (rw e at h))

pub most-held : (r m n : ℕ) (t u : Bool) → r ≡ m → r ≤ n → u ≡ t → u ≡ leb m n && t
most-held r m n t u e h = went_on (leb m n) t u (le-leb m n (rw e at h))

-- a number r that was read as m, and is to be n
pub same-failed : (r m n : ℕ) (t : Bool) → r ≡ m → (r ≡ n → ⊥) → false ≡ eqb m n && t
same-failed r m n t e h = stopped (eqb m n) t (ne_eqb m n (λ same. h (e ∙ same)))

pub same-held : (r m n : ℕ) (t u : Bool) → r ≡ m → r ≡ n → u ≡ t → u ≡ eqb m n && t
same-held r m n t u e h = went_on (eqb m n) t u (eq-eqb m n (sym e ∙ h))

pub ruleset ways = (answer-failed, answer-held, under-failed, under-held, most-failed, most-held, same-failed, same-held)

-- ---- a loop over places, of which `every` tells

-- one more place
pub place-held : (test : ℕ → Bool) (n : ℕ) {r : Bool}
    → every test n ≡ true → r ≡ test n → not r ≡ false → every test (n + 1) ≡ true
place-held test n {r} past e h =
    rw (add-one, every-suc) (and-true (every test n) (test n) past (sym e ∙ not-false r h))

-- a place that fails, at which the loop is left
pub place-failed : (test : ℕ → Bool) (i n : ℕ) {r : Bool} → i < n → r ≡ test i → not r ≡ true → false ≡ every test n
place-failed test i n {r} l e h = sym (every-false test n i l (sym e ∙ not-true r h))

-- the end of the loop
pub places-held : (test : ℕ → Bool) {n m : ℕ} → every test n ≡ true → n ≡ m → true ≡ every test m
places-held test e h = rw h at (sym e)
