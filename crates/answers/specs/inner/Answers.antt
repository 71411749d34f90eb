-- The number of rows as the code reads it.
-- Assumes nothing.
use Rattle.std.specs.Prelude.{ℕ, cond, List, length, ltb}
use Rattle.layout.specs.Read.{contents_of}
use Rattle.plain.specs.Structs.{no_value}

-- what the code reads for the number of rows: no value, where there is no block to state it in
unfoldable pub rows_stated : List ℕ → ℕ
rows_stated b = cond (ltb (length b) 512) no_value (length (contents_of b).offers)
