-- The prices that a list holds.
-- Assumes nothing.
use Rattle.std.specs.Prelude.{ℕ, ◌≤◌, ◌<◌, List, get_or}

-- the price of a row
abbrev pub price_at : List ℕ → ℕ → ℕ
price_at prices row = get_or prices row 0

-- no price of n rows is over 1,000,000
abbrev pub Cheap : List ℕ → ℕ → Type 0
Cheap prices n = (i : ℕ) → i < n → get_or prices i 0 ≤ 1000000
