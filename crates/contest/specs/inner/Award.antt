-- What the contest by one key, and by all five, leaves of a list of standings.
-- Assumes nothing.
use Rattle.std.specs.Prelude.{ℕ, ◌≤◌, ◌<◌, ◌≡◌, Bool, false, cond, List, length, get_or}
use Rattle.laws.specs.Orders.{then_by}
use Rattle.contest.specs.inner.Contest.{wins, contenders, in_order}
use Rattle.contest.specs.inner.Sieve.{comes_out, key_at}

-- a contest with its first part told: who comes out by the whole order comes out by the rest of it, for what is left
pub record KeyTold (n : ℕ) (whole rest : ℕ → ℕ → Bool) (entry : List ℕ) (spare : ℕ) (exit : List ℕ) (left : ℕ) : Type 0 where
  -- there are as many rows as before
  pub rows : length exit ≡ length entry
  -- who comes out stays the same
  pub within : (i : ℕ) → i < n → comes_out exit rest n left i ≡ comes_out entry whole n spare i
  -- the rows past the first n stand as they did
  pub beyond : (i : ℕ) → n ≤ i → get_or exit i 0 ≡ get_or entry i 0

-- a contest with one key told, whatever comes after it
abbrev pub Sifted : List ℕ → ℕ → List ℕ → ℕ → List ℕ → ℕ → Type 0
Sifted keys n entry spare exit left =
    (rest : ℕ → ℕ → Bool) → ((i : ℕ) → rest i i ≡ false) → KeyTold n (then_by (key_at keys) rest) rest entry spare exit left

-- what `award` asks of its lists
pub record Ready (k₁ k₂ k₃ k₄ k₅ standings : List ℕ) (n : ℕ) : Type 0 where
  -- each of the first n rows has five keys and a standing
  pub first : n ≤ length k₁
  pub second : n ≤ length k₂
  pub third : n ≤ length k₃
  pub fourth : n ≤ length k₄
  pub fifth : n ≤ length k₅
  pub standing : n ≤ length standings
  -- there are no more rows than a book has
  pub few : n ≤ 600
  -- a row contends or does not: none has won yet
  pub fresh : (i : ℕ) → i < n → get_or standings i 0 ≤ 1

-- what `award` leaves
pub record Awarded (k₁ k₂ k₃ k₄ k₅ entry : List ℕ) (n spare : ℕ) (exit : List ℕ) : Type 0 where
  -- there are as many rows as before
  pub rows : length exit ≡ length entry
  -- each of the first n stands at 1 where it wins a spare tenth by the five keys, and else at 0
  pub within : (i : ℕ) → i < n → get_or exit i 0 ≡ cond (wins (contenders entry) (in_order k₁ k₂ k₃ k₄ k₅) n spare i) 1 0
  -- the others stand as they did
  pub beyond : (i : ℕ) → n ≤ i → get_or exit i 0 ≡ get_or entry i 0
