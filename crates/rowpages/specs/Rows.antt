-- The numbers of the rows of a book: few in full, many as a table.
-- Assumes nothing.
use Rattle.std.specs.Prelude.{ℕ, cond, List, [], ◌∷◌, ◌++◌, eqb, leb, Ok, Err, Some, None}
use Rattle.std.specs.declared.option.Option.{Option}
use Rattle.readout.specs.declared.Head.{Head}
use Rattle.readout.specs.Facts.{row_in, rows_in}
use Rattle.workings.specs.Works.{worked, WorksAnswer}
use Rattle.rowlines.specs.Rows.{rows_head_numbers}
use Rattle.rowlines.specs.Table.{table_head_numbers}
use Rattle.forms.specs.Parts.{parts_of}
use Rattle.rowpages.specs.Row.{row_parts}
use Rattle.rowpages.specs.Together.{together_parts}
use Rattle.rowpages.specs.Table.{table_parts}

-- the first n rows, each with what its resource's steps clear together, behind the last of them
unfoldable pub few_parts : List ℕ → (edition n : ℕ) → List (List ℕ)
few_parts b edition n =
    parts_of (λ row. row_parts edition row (row_in b row) (worked b row 600 600) ++ together_parts b row (row_in b row)) n

-- n rows: up to 15 in full, more as a table
unfoldable pub rows_by : List ℕ → (edition amount sum n : ℕ) → List (List ℕ)
rows_by b edition amount sum n =
    cond (eqb n 0) []
    (cond (leb n 15) (rows_head_numbers ∷ few_parts b edition n)
    (table_head_numbers ∷ table_parts b amount sum n))

-- of a book that is accepted
abbrev pub rows_parts : List ℕ → Option Head → WorksAnswer → List (List ℕ)
rows_parts b (Some h) (Ok w) = rows_by b h.edition w.stop.level.amount w.stop.level.sum (rows_in b)
rows_parts b (Some h) (Err refusal) = []
rows_parts b None w = []
