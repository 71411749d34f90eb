-- Laws of `wins`.
--
-- In order: the same contenders; the same order; nothing to win; an order in which no one stands before another; such an order
-- after the last key.
-- Assumes nothing.
use mathlib.Core.Path.{◌≡◌, ap, ap₂}
use mathlib.Core.Bool.{Bool, false, ◌&&◌, and-false, or-false}
use Prim.Native.Nat.{ℕ, ◌<◌, zero-le}
use lib.Dec.{ltb}
use borrow.Author.Tests.{le-ltb}
use Rattle.laws.specs.Sum.{count_where}
use Rattle.laws.specs.Orders.{by_key, then_by}
use Rattle.laws.proofs.Counts.{count_where-within}
use Rattle.laws.proofs.Where.{sum_where-same, sum_where-none}
use Rattle.laws.proofs.Ranks.{rank_among}
use Rattle.contest.specs.inner.Contest.{wins}

-- the order in which no one stands before another
abbrev pub no_order : ℕ → ℕ → Bool
no_order i j = false

-- where the same rows contend the same rows win
pub wins-contenders : (s t : ℕ → Bool) (before : ℕ → ℕ → Bool) (n spare i : ℕ)
    → ((j : ℕ) → j < n → s j ≡ t j) → i < n → wins s before n spare i ≡ wins t before n spare i
unfolding wins count_where
wins-contenders s t before n spare i h l =
    ap₂ (λ (c : Bool) (rank : ℕ). c && ltb rank spare) (h i l)
    (sum_where-same _ _ _ n (λ j m. ap (λ (c : Bool). c && before j i) (h j m)))

-- where the same rows stand before i, i wins alike
pub wins-order : (contends : ℕ → Bool) (before after : ℕ → ℕ → Bool) (n spare i : ℕ)
    → ((j : ℕ) → j < n → before j i ≡ after j i) → wins contends before n spare i ≡ wins contends after n spare i
unfolding wins
wins-order contends before after n spare i h =
    ap (λ (rank : ℕ). contends i && ltb rank spare) (count_where-within contends _ _ n (λ j l c. h j l))

-- where nothing is left no one wins
pub wins-nothing : (contends : ℕ → Bool) (before : ℕ → ℕ → Bool) (n i : ℕ) → wins contends before n 0 i ≡ false
unfolding wins
wins-nothing contends before n i = rw (le-ltb (rank_among contends before n i) 0 zero-le) (and-false (contends i))

-- where no one stands before another every contender wins what is left
pub wins-level : (contends : ℕ → Bool) (n left i : ℕ) → wins contends no_order n left i ≡ contends i && ltb 0 left
unfolding wins count_where
wins-level contends n left i =
    ap (λ (rank : ℕ). contends i && ltb rank left) (sum_where-none _ _ n (λ j l. and-false (contends j)))

-- an order by one key is that key and then no order
pub wins-last : (contends : ℕ → Bool) (key : ℕ → ℕ) (n spare i : ℕ)
    → wins contends (by_key key) n spare i ≡ wins contends (then_by key no_order) n spare i
wins-last contends key n spare i =
    wins-order contends (by_key key) (then_by key no_order) n spare i
    (λ j l. simp (and-false, or-false))
