-- Keys that part the contenders, as a search meets them.
--
-- In order: how many contend under a limit that no key is under, under a higher limit, and under limits that no key lies
-- between; the three keys that a search may end with.
-- Assumes nothing.
use mathlib.Core.Path.{◌≡◌}
use mathlib.Core.Bool.{Bool, and-false}
use Prim.Native.Nat.{ℕ, suc, ◌≤◌, ◌<◌}
use native.Mathlib.Nat.{le_antisymm}
use native.Mathlib.Omega.{arith}
use borrow.Author.Tests.{ltb-true, lt-ltb, le-ltb}
use Rattle.laws.specs.Sum.{count_where}
use Rattle.laws.proofs.Compare.{le-unless}
use Rattle.laws.proofs.Counts.{count_where-mono}
use Rattle.laws.proofs.Where.{sum_where-none}
use Rattle.contest.specs.inner.Sieve.{Parts, count_under}
use Rattle.contest.proofs.Tests.{and-implies}

module _ (contends : ℕ → Bool) (key : ℕ → ℕ) (n : ℕ) where
  -- under the lowest key no one contends
  pub under-lowest : (limit : ℕ) → ((i : ℕ) → i < n → limit ≤ key i) → count_under contends key limit n ≡ 0
  unfolding count_under count_where
  under-lowest limit h = sum_where-none _ _ n (λ i l. rw (le-ltb (key i) limit (h i l)) (and-false (contends i)))

  -- where keys under one limit are under another, no more contend under the one
  under-implied : (a b : ℕ) → ((i : ℕ) → i < n → key i < a → key i < b) → count_under contends key a n ≤ count_under contends key b n
  unfolding count_under
  under-implied a b h =
      count_where-mono _ _ n (λ i l. and-implies (contends i) (λ t. lt-ltb (key i) b (h i l (ltb-true (key i) a t))))

  -- under a higher limit stand no fewer
  pub under-mono : (low high : ℕ) → low ≤ high → count_under contends key low n ≤ count_under contends key high n
  under-mono low high h = under-implied low high (λ i l k. omega arith)

  -- where no key lies between two limits, as many contend under each
  pub under_same : (low high : ℕ) → low ≤ high → ((i : ℕ) → i < n → low ≤ key i → high ≤ key i)
      → count_under contends key low n ≡ count_under contends key high n
  under_same low high h none =
      le_antisymm (under-mono low high h)
      (under-implied high low (λ i l k. le-unless (suc (key i)) low (λ m. omega (arith, none i l (omega arith)))))

  module _ (spare limit : ℕ) where
    -- the highest key, where it is not too high, parts them: no one is over it
    pub parts-top : ((i : ℕ) → i < n → key i ≤ limit) → count_under contends key limit n ≤ spare → Parts contends key n spare limit
    parts-top top h = record { enough = h; taken = λ i l c k. absurd (omega (arith, top i l)) }

    -- a key under which exactly `spare` contend parts them
    pub parts-exact : count_under contends key limit n ≡ spare → Parts contends key n spare limit
    parts-exact e = record { enough = omega arith; taken = λ i l c k. omega (arith, under-mono limit (suc limit) (omega arith)) }

    -- a key under which at most `spare` contend parts them, where more do under a key at most one higher
    pub parts_next : (high : ℕ) → high ≤ suc limit
        → count_under contends key limit n ≤ spare → spare < count_under contends key high n → Parts contends key n spare limit
    parts_next high l h g = record { enough = h; taken = λ i m c k. omega (arith, under-mono high (suc limit) l) }
