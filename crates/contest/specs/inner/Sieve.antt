-- One key at a time: how many contend under a limit, the key that parts the contenders, and who is still to be told.
--
-- While a contest lasts a row stands at 0 where it is out, at 1 where it contends and at 2 where it has won.
-- Assumes nothing.
use Rattle.std.specs.Prelude.{ℕ, suc, ◌≤◌, ◌<◌, ◌≡◌, Bool, true, cond, ◌&&◌, ◌||◌, List, length, get_or, ltb, eqb}
use Rattle.laws.specs.Sum.{count_where}
use Rattle.contest.specs.inner.Contest.{wins, contenders}

-- a list of keys, as a function of the row
abbrev pub key_at : List ℕ → ℕ → ℕ
key_at keys i = get_or keys i 0

-- each of the n rows has a key and a standing, and there are no more rows than a book has
pub record Keyed (keys standings : List ℕ) (n : ℕ) : Type 0 where
  pub keyed : n ≤ length keys
  pub standing : n ≤ length standings
  pub few : n ≤ 600

-- how many of the n rows that contend have a key under the limit
unfoldable pub count_under : (ℕ → Bool) → (ℕ → ℕ) → ℕ → ℕ → ℕ
count_under contends key limit n = count_where (λ i. contends i && ltb (key i) limit) n

-- a key such that who contends under it wins, and who contends over it does not
pub record Parts (contends : ℕ → Bool) (key : ℕ → ℕ) (n spare limit : ℕ) : Type 0 where
  -- at most `spare` contenders have a lower key
  pub enough : count_under contends key limit n ≤ spare
  -- where a contender has a higher key, at least `spare` others have this one or a lower
  pub taken : (i : ℕ) → i < n → contends i ≡ true → limit < key i → spare ≤ count_under contends key (suc limit) n

-- the rows that have won, as a list of standings says
abbrev pub winners : List ℕ → ℕ → Bool
winners standings i = eqb (get_or standings i 0) 2

-- i has won, or wins what is left
abbrev pub comes_out : List ℕ → (ℕ → ℕ → Bool) → ℕ → ℕ → ℕ → Bool
comes_out standings before n left i = winners standings i || wins (contenders standings) before n left i

-- where a row stands after its key is stands_after to the limit
abbrev pub stands : ℕ → ℕ → ℕ → ℕ
stands standing key limit = cond (eqb standing 1) (cond (ltb key limit) 2 (cond (eqb key limit) 1 0)) standing

-- where the rows of a list stand after
unfoldable pub stands_after : List ℕ → List ℕ → ℕ → ℕ → ℕ
stands_after keys standings limit i = stands (get_or standings i 0) (key_at keys i) limit

-- 1 for a row that has won, and for one that still contends where something is left; else 0
abbrev pub receives : ℕ → ℕ → ℕ
receives standing left = cond (eqb standing 2 || (eqb standing 1 && ltb 0 left)) 1 0

-- what the rows of a list receive
unfoldable pub settled : List ℕ → ℕ → ℕ → ℕ
settled standings left i = receives (get_or standings i 0) left
