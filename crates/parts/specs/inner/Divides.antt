-- What is asked of a level and of rows before parts of it are taken.
-- Assumes nothing.
use Rattle.std.specs.Prelude.{ℕ, ◌≤◌, ◌<◌, ◌≡◌, List, get_or}
use Rattle.levels.specs.inner.Rows.{RowLists}
use Rattle.levels.specs.declared.level.Level.{Level}

-- a level's numbers are in a book's range, and where the row is at its price it has something to sell
pub record Divides (l : Level) (price quantity : ℕ) : Type 0 where
  pub some : price ≡ l.price → 0 < l.sum
  pub within : l.amount ≤ l.sum
  pub low : l.sum ≤ 120000000
  pub small : quantity ≤ 200000

-- the same of each of n rows
pub record DividesRows (l : Level) (prices quantities : List ℕ) (n : ℕ) : Type 0 where
  pub rows : RowLists prices quantities n
  pub each : (i : ℕ) → i < n → Divides l (get_or prices i 0) (get_or quantities i 0)
