-- What rows commit, told from the least that each commits and what it clears.
-- Assumes nothing.
use Rattle.std.specs.Prelude.{ℕ, ◌-◌, ◌≤◌, ◌<◌, max, cond, List, length, get_or, eqb}

-- nothing where nothing cleared, else the larger of both
unfoldable pub committed_from : ℕ → ℕ → ℕ
committed_from least c = cond (eqb c 0) 0 (max c least)

module _ (leasts cleared : List ℕ) (row : ℕ) where
  abbrev pub row_commits : ℕ
  row_commits = committed_from (get_or leasts row 0) (get_or cleared row 0)

  -- what is committed past what cleared
  abbrev pub row_past : ℕ
  row_past = row_commits - get_or cleared row 0

-- n rows in two lists: both are long enough, there are at most 600, and none commits more than 200,000 tenths
pub record Committable (leasts cleared : List ℕ) (n : ℕ) : Type 0 where
  pub leasts-long : n ≤ length leasts
  pub cleared-long : n ≤ length cleared
  pub few : n ≤ 600
  pub modest : (row : ℕ) → row < n → row_commits leasts cleared row ≤ 200000
