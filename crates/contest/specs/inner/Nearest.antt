-- What is known of the keys of n rows, whoever contends: that they are alike, and which is nearest to a number.
-- Assumes nothing.
use Rattle.std.specs.Prelude.{ℕ, ◌≤◌, ◌<◌, ◌≡◌}

-- all keys are the first
abbrev pub Alike : (ℕ → ℕ) → ℕ → Type 0
Alike key n = (i : ℕ) → i < n → key i ≡ key 0

-- from `low` on no key comes before `next`
pub record LowestFrom (key : ℕ → ℕ) (n low high next : ℕ) : Type 0 where
  pub least : low ≤ next
  pub most : next ≤ high
  pub none : (i : ℕ) → i < n → low ≤ key i → next ≤ key i

-- up to `top` no key comes after `last`
pub record HighestTo (key : ℕ → ℕ) (n low top last : ℕ) : Type 0 where
  pub least : low ≤ last
  pub most : last ≤ top
  pub none : (i : ℕ) → i < n → key i ≤ top → key i ≤ last
