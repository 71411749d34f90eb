-- The numbers of the rows as a table: a line each.
-- Assumes nothing.
use Rattle.std.specs.Prelude.{ℕ, List, [], ◌∷◌, Some, None}
use Rattle.layout.specs.Read.{contents_of}
use Rattle.sale.specs.Auction.{row_cleared, row_committed, row_make_whole}
use Rattle.readout.specs.Facts.{row_in}
use Rattle.rowlines.specs.Table.{line_numbers}
use Rattle.forms.specs.Parts.{parts_of}
use Rattle.readout.specs.Read.{RowOffer}

-- the line of a row that is there, by what it clears, commits and is paid
abbrev pub line_parts : ℕ → RowOffer → (cleared committed mills amount sum : ℕ) → List (List ℕ)
line_parts row (Some o) cleared committed mills amount sum = line_numbers row o cleared committed mills amount sum ∷ []
line_parts row None cleared committed mills amount sum = []

-- the lines of the first n rows; the level at which the total stops receives `amount` of `sum`
unfoldable pub table_parts : List ℕ → (amount sum n : ℕ) → List (List ℕ)
table_parts b amount sum n =
    let c = contents_of b in
    parts_of (λ row. line_parts row (row_in b row) (row_cleared c row) (row_committed c row) (row_make_whole c row) amount sum) n
