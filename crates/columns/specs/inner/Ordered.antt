-- What rows have that contend for spare tenths.
-- Assumes nothing.
use Rattle.std.specs.Prelude.{ℕ, ◌≤◌, ◌<◌, List, length, get_or}

-- the lists that order the rows for the spare tenths are long enough, and every row offers something
pub record Ordered (quantities stamps resources steps : List ℕ) (n : ℕ) : Type 0 where
  pub stamps-long : n ≤ length stamps
  pub resources-long : n ≤ length resources
  pub steps-long : n ≤ length steps
  pub positive : (i : ℕ) → i < n → 0 < get_or quantities i 0
