-- What a search for the limit of a key knows: two numbers that the limit lies between, and how many contend under each.
-- Assumes nothing.
use Rattle.std.specs.Prelude.{ℕ, suc, ◌+◌, ◌≤◌, ◌<◌, ◌≡◌, Bool}
use Rattle.contest.specs.declared.limit.KeyBracket.{KeyBracket}
use Rattle.contest.specs.declared.limit.Parting.{Parting}
use Rattle.contest.specs.inner.Sieve.{Parts, count_under}

-- at most `spare` contend under the first, and more under the second
pub record Between (contends : ℕ → Bool) (key : ℕ → ℕ) (n spare : ℕ) (b : KeyBracket) : Type 0 where
  pub ordered : b.low < b.high
  pub few : b.few ≡ count_under contends key b.low n
  pub enough : b.few ≤ spare
  pub many : b.many ≡ count_under contends key b.high n
  pub short : spare < b.many
  pub book : b.many ≤ 600

-- the limit is not found yet: fewer than `spare` contend under the first, and there are numbers between the two
pub record Open (spare : ℕ) (b : KeyBracket) : Type 0 where
  pub some : b.few < spare
  pub short : spare < b.many
  pub book : b.many ≤ 600
  pub room : suc b.low < b.high

-- the limit lies between two numbers that are no further apart
pub record Closer (contends : ℕ → Bool) (key : ℕ → ℕ) (n spare : ℕ) (b r : KeyBracket) : Type 0 where
  pub between : Between contends key n spare r
  pub apart : r.high + b.low ≤ r.low + b.high

-- the same after a look at `mid`, and where that lay between the two they are nearer
pub record Looked (contends : ℕ → Bool) (key : ℕ → ℕ) (n spare : ℕ) (b : KeyBracket) (mid : ℕ) (r : KeyBracket) : Type 0 where
  pub closer : Closer contends key n spare b r
  pub nearer : b.low < mid → mid < b.high → r.high + b.low < r.low + b.high

-- a limit that parts the contenders, and how many contend under it
pub record LimitFound (contends : ℕ → Bool) (key : ℕ → ℕ) (n spare : ℕ) (p : Parting) : Type 0 where
  pub parts : Parts contends key n spare p.limit
  pub won : p.won ≡ count_under contends key p.limit n
