-- Rows that lie within a book.
-- Assumes nothing.
use Rattle.std.specs.Prelude.{ℕ, ◌+◌, ◌*◌, ◌/◌, ◌≤◌, ◌<◌, List, length}

-- there are at most 600 rows, and the block of each lies within the book, where those of their section start at `first`
pub record Inside (b : List ℕ) (first n : ℕ) : Type 0 where
  pub few : n ≤ 600
  pub within : (row : ℕ) → row < n → (first + row / 15) * 512 + 512 ≤ length b
