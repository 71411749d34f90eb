-- What can be read of a book, accepted or not: what it states and its rows, each as the functions of this crate answer it.
-- Assumes nothing.
use Rattle.std.specs.Prelude.{ℕ, List, length}
use Rattle.layout.specs.Form.{form_fault}
use Rattle.layout.specs.Read.{contents_of}
use Rattle.readout.specs.Read.{head_by, offers_by, row_of, earlier_row, RowOffer}
use Rattle.std.specs.declared.option.Option.{Option}
use Rattle.readout.specs.declared.Head.{Head}

module _ (b : List ℕ) where
  -- what block 0 states
  abbrev pub head_in : Option Head
  head_in = head_by (form_fault b) (contents_of b)

  -- how many rows can be read
  abbrev pub rows_in : ℕ
  rows_in = length (offers_by (form_fault b) (contents_of b))

  -- the offer of a row
  abbrev pub row_in : ℕ → RowOffer
  row_in row = row_of (offers_by (form_fault b) (contents_of b)) row

  -- the first row with the resource of a row
  abbrev pub earlier_in : ℕ → ℕ
  earlier_in row = earlier_row (offers_by (form_fault b) (contents_of b)) row
