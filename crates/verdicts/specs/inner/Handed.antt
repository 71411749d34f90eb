-- How many rows of a book the reader hands back.
-- Assumes nothing.
use Rattle.std.specs.Prelude.{ℕ, Err, Ok}
use Rattle.values.specs.Refusals.{Verdict}

-- all that a book states, and none of one that is refused by 1 to 3
abbrev pub rows_handed : Verdict → ℕ → ℕ
rows_handed (Ok u) offers = offers
rows_handed (Err refusal) offers = 0
