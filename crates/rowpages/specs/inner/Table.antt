-- The line of a row by lists of what rows clear and commit.
-- Assumes nothing.
use Rattle.std.specs.Prelude.{ℕ, ◌-◌, List, get_or}
use Rattle.std.proofs.Math.Option.{Option}
use Rattle.auction.specs.Settlement.{mills}
use Rattle.readout.specs.Facts.{row_in}
use Rattle.rowpages.specs.Table.{line_parts}

abbrev pub line_by : List ℕ → Option ℕ → (cleared committed : List ℕ) → (amount sum row : ℕ) → List (List ℕ)
line_by b price cleared committed amount sum row =
    let x = get_or cleared row 0 in
    let y = get_or committed row 0 in
    line_parts row (row_in b row) x y (mills price (y - x)) amount sum
