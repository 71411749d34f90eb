-- A contest by a key and then by the rest of an order, told by a key that parts the contenders.
--
-- In order: who contends at a limit; the rank of a contender under a limit, over it and at its own key; the law of one step,
-- under the parting key, over it, at it, and at once.
-- Assumes nothing.
use mathlib.Core.Path.{◌≡◌, refl, sym, ◌∙◌}
use mathlib.Core.Bool.{Bool, true, false, ◌&&◌, ◌||◌}
use Prim.Native.Nat.{ℕ, suc, ◌+◌, ◌-◌, ◌≤◌, ◌<◌}
use native.Mathlib.Omega.{arith}
use lib.Dec.{ltb, eqb}
use borrow.Author.Tests.{ltb-true, eqb-true, lt-ltb, le-ltb, eq-eqb, ne_eqb}
use Rattle.laws.specs.Sum.{count_where}
use Rattle.laws.specs.Orders.{then_by}
use Rattle.laws.proofs.Cases.{by-test, and_left, and_right}
use Rattle.laws.proofs.Counts.{count_where-mono, count_where-less}
use Rattle.laws.proofs.Orders.{by-comparison, then_by-lower}
use Rattle.laws.proofs.Ranks.{rank_among}
use Rattle.laws.proofs.Where.{sum_where-either, sum_where-same}
use Rattle.contest.specs.inner.Contest.{wins}
use Rattle.contest.specs.inner.Sieve.{count_under, Parts}
use Rattle.contest.proofs.Tests.{and-implies, and-either, ltb-part}

-- who contends and has the key `limit`
abbrev pub level : (ℕ → Bool) → (ℕ → ℕ) → ℕ → ℕ → Bool
level contends key limit i = contends i && eqb (key i) limit

module _ (contends : ℕ → Bool) (key : ℕ → ℕ) (rest : ℕ → ℕ → Bool) (n : ℕ) where
  abbrev before : ℕ → ℕ → Bool
  before = then_by key rest

  abbrev rank : ℕ → ℕ
  rank = rank_among contends before n

  -- who stands before another has no higher key
  before-most : (j i : ℕ) → before j i ≡ true → key j ≤ key i
  before-most j i b =
      by-test (ltb (key j) (key i))
      (λ t. omega (arith, ltb-true (key j) (key i) t))
      (λ t. omega (arith, eqb-true (key j) (key i) (and_left (eqb (key j) (key i)) (rest j i) (rw t at b))))

  -- under a limit fewer stand before a contender than contend there: it is one of them itself
  rank-under : (limit i : ℕ) → i < n → contends i ≡ true → rest i i ≡ false → key i < limit
      → rank i < count_under contends key limit n
  unfolding count_under
  rank-under limit i l c r k =
      count_where-less _ _ n i
      (λ j m. and-implies (contends j) (λ b. lt-ltb (key j) limit (omega (arith, before-most j i b))))
      l
      (rw (c, le-ltb (key i) (key i) (omega arith), eq-eqb (key i) (key i) refl, r))
      (rw (c, lt-ltb (key i) limit k))

  -- over a limit all who contend at it or under it stand before
  rank-over : (limit i : ℕ) → limit < key i → count_under contends key (suc limit) n ≤ rank i
  unfolding count_under
  rank-over limit i k =
      count_where-mono _ _ n
      (λ j l. and-implies (contends j) (λ t. then_by-lower key rest j i (omega (arith, ltb-true (key j) (suc limit) t))))

  -- who has a lower key than k does not have k
  apart : (j i k : ℕ) → contends j && ltb (key j) k ≡ true → level contends key k j && rest j i ≡ false
  apart j i k t =
      let l = ltb-true (key j) k (and_right (contends j) (ltb (key j) k) t) in
      rw (and_left (contends j) (ltb (key j) k) t, ne_eqb (key j) k (omega arith))

  -- before a contender stand those that have a lower key, and of those that have its key who comes first in the rest
  rank-level : (i : ℕ) → rank i ≡ count_under contends key (key i) n + rank_among (level contends key (key i)) rest n i
  unfolding count_under count_where
  rank-level i =
      sum_where-same _ _ _ n (λ j l. and-either (contends j) _ _ (rest j i))
      ∙ sym (sum_where-either _ _ _ n (λ j l. apart j i (key i)))

  -- what is left once who contends under a limit has won
  abbrev left : ℕ → ℕ → ℕ
  left spare limit = spare - count_under contends key limit n

  -- of the contest by the whole order: i contends under the limit, or contends at it and wins what is left by the rest
  abbrev Step : ℕ → ℕ → ℕ → Type 0
  Step spare limit i =
      wins contends before n spare i
      ≡ (contends i && ltb (key i) limit) || wins (level contends key limit) rest n (left spare limit) i

  step-under : (spare limit i : ℕ) → Parts contends key n spare limit → i < n
      → contends i ≡ true → rest i i ≡ false → key i < limit → Step spare limit i
  unfolding wins
  step-under spare limit i parts l c r k =
      rw (c, lt-ltb (key i) limit k, lt-ltb (rank i) spare (omega (arith, parts.enough, rank-under limit i l c r k)))

  step-over : (spare limit i : ℕ) → Parts contends key n spare limit → i < n
      → contends i ≡ true → limit < key i → Step spare limit i
  unfolding wins
  step-over spare limit i parts l c k =
      let none = le-ltb (rank i) spare (omega (arith, parts.taken i l c k, rank-over limit i k)) in
      rw (none, c, le-ltb (key i) limit (omega arith), ne_eqb (key i) limit (omega arith))

  step-level : (spare limit i : ℕ) → Parts contends key n spare limit
      → contends i ≡ true → key i ≡ limit → Step spare limit i
  unfolding wins
  step-level spare limit i parts c e =
      rw (← e, c, le-ltb (key i) (key i) (omega arith), eq-eqb (key i) (key i) refl, rank-level i)
      (ltb-part (count_under contends key (key i) n) _ spare (rw (← e) at parts.enough))

  -- by a key that parts the contenders who contends under it wins, and who contends at it goes on for what is left
  pub sift-step : (spare limit i : ℕ) → Parts contends key n spare limit → i < n → rest i i ≡ false → Step spare limit i
  unfolding wins
  sift-step spare limit i parts l r =
      by-test (contends i)
      (λ c.
      by-comparison (key i) limit
      (step-under spare limit i parts l c r)
      (step-level spare limit i parts c)
      (step-over spare limit i parts l c))
      (λ c. rw c)
