-- The numbers of a row as a refused book states it.
-- Assumes nothing.
use Rattle.std.specs.Prelude.{ℕ, List, [], ◌∷◌, Some, None}
use Rattle.rowlines.specs.Rows.{offer_numbers}
use Rattle.faultlines.specs.Wrong.{values_numbers}
use Rattle.readout.specs.Read.{RowOffer}

-- its offer and its values, where it is there
abbrev pub stated_row : (edition row : ℕ) → RowOffer → List (List ℕ)
stated_row edition row (Some o) = offer_numbers edition row o ∷ values_numbers edition o ∷ []
stated_row edition row None = []
