-- A row that a book has.
-- Assumes nothing.
use Rattle.std.specs.Prelude.{ℕ, ◌<◌, ◌≡◌, List, length}
use Rattle.layout.specs.Form.{form_fault}
use Rattle.layout.specs.Read.{contents_of}
use Rattle.values.specs.Refusals.{no_fault}

-- a row that a book has, where 1 to 3 do not refuse it
pub record HasRow (b : List ℕ) (row : ℕ) : Type 0 where
  pub form : form_fault b ≡ no_fault
  pub there : row < length (contents_of b).offers
