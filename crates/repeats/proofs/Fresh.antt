-- Laws of the search for a repeated resource number.
--
-- In order: a row that is fresh, a row that is not; which rows are no repeats; the search that found none, and the one that found
-- a row; its answer is at most n; resource numbers and steps that agree.
-- Assumes nothing.
use mathlib.Core.Path.{◌≡◌, sym, ap, ◌∙◌}
use mathlib.Core.Bool.{true, false, not, ◌&&◌}
use Prim.Native.Nat.{ℕ, ◌≤◌, ◌<◌}
use native.Mathlib.Omega.{arith}
use lib.Dec.{eqb}
use borrow.Author.Tests.{eq-eqb, eqb-true, eqb-false, not-true}
use Rattle.laws.specs.Sum.{every}
use Rattle.laws.proofs.Cases.{by-test, cond-true, cond-false, and_left, and_right}
use Rattle.laws.proofs.Everys.{every-at, every-false}
use Rattle.repeats.specs.Repeats.{fresh, no_repeat}
use Rattle.repeats.specs.inner.Repeats.{first_repeat}
use Rattle.repeats.proofs.Failing.{every-ext, failing-none, failing-at, failing-le, failing-ext}

-- The resource number of a fresh row stands in no earlier row.
pub fresh-differs : (resources : ℕ → ℕ) (row earlier : ℕ)
    → fresh resources row ≡ true → earlier < row → resources earlier ≡ resources row → ⊥
fresh-differs resources row earlier e l =
    eqb-false (resources earlier) (resources row) (not-true (eqb (resources earlier) (resources row)) (every-at _ row earlier e l))

fresh-not : (resources : ℕ → ℕ) (row earlier : ℕ)
    → earlier < row → resources earlier ≡ resources row → fresh resources row ≡ false
fresh-not resources row earlier l e =
    every-false _ row earlier l (ap not (eq-eqb (resources earlier) (resources row) e))

module _ (resources steps : ℕ → ℕ) where
  -- ---- which rows are no repeats

  -- a row with step 1 is tested
  pub repeat-tested : (row : ℕ) → eqb (steps row) 1 ≡ true → no_repeat resources steps row ≡ fresh resources row
  unfolding no_repeat
  repeat-tested row first = cond-true (eqb (steps row) 1) _ _ first

  -- no other is
  pub repeat-untested : (row : ℕ) → eqb (steps row) 1 ≡ false → no_repeat resources steps row ≡ true
  unfolding no_repeat
  repeat-untested row past = cond-false (eqb (steps row) 1) _ _ past

  -- a fresh row is no repeat, whatever its step
  pub repeat-fresh : (row : ℕ) → fresh resources row ≡ true → no_repeat resources steps row ≡ true
  repeat-fresh row f = by-test (eqb (steps row) 1) (λ t. repeat-tested row t ∙ f) (repeat-untested row)

  -- as the search tests each earlier row
  pub repeat-searched : (row : ℕ) → every (λ earlier. not (eqb (steps row) 1 && eqb (resources earlier) (resources row))) row ≡ true
      → no_repeat resources steps row ≡ true
  repeat-searched row e = by-test (eqb (steps row) 1) (λ t. repeat-tested row t ∙ rw t at e) (repeat-untested row)

  -- ---- the search

  module _ (n row : ℕ) (passed : every (no_repeat resources steps) row ≡ true) where
    -- it passed n rows that are no repeats
    pub repeat-none : row ≤ n → n ≤ row → row ≡ first_repeat resources steps n
    unfolding first_repeat
    repeat-none l m = let same : n ≡ row = omega arith in rw same (sym (failing-none (no_repeat resources steps) row passed))

    -- it came to a row that is one
    pub repeat-at : row < n → no_repeat resources steps row ≡ false → row ≡ first_repeat resources steps n
    unfolding first_repeat
    repeat-at l f = sym (failing-at (no_repeat resources steps) n row l passed f)

    -- the row has step 1, and its resource number was met in an earlier row
    pub repeat-found : (earlier : ℕ) → row < n → earlier < row → eqb (steps row) 1 && eqb (resources earlier) (resources row) ≡ true
        → row ≡ first_repeat resources steps n
    repeat-found earlier l m e =
        repeat-at l
        (repeat-tested row (and_left (eqb (steps row) 1) _ e)
        ∙ fresh-not resources row earlier m (eqb-true _ _ (and_right (eqb (steps row) 1) _ e)))

  pub repeat-le : (n : ℕ) → first_repeat resources steps n ≤ n
  unfolding first_repeat
  repeat-le n = failing-le (no_repeat resources steps) n

-- resource numbers and steps that agree in each of the n rows
pub repeat-ext : (resources others steps counts : ℕ → ℕ) (n : ℕ)
    → ((row : ℕ) → row < n → resources row ≡ others row)
    → ((row : ℕ) → row < n → steps row ≡ counts row)
    → first_repeat resources steps n ≡ first_repeat others counts n
unfolding first_repeat no_repeat
repeat-ext resources others steps counts n h k =
    failing-ext (no_repeat resources steps) (no_repeat others counts) n
    (λ row l.
    let same : fresh resources row ≡ fresh others row = every-ext _ _ row (λ earlier m. rw (h earlier (omega arith), h row l)) in
    rw (k row l, same))
