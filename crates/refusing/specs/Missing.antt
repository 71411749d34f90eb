-- The numbers of all that a book lacks.
-- Assumes nothing.
use Rattle.std.specs.Prelude.{ℕ, List, [], ◌∷◌, Some, None}
use Rattle.values.specs.declared.Value.{Value}
use Rattle.values.specs.declared.Value.TheVariants.{Given, Missing}
use Rattle.values.specs.declared.head.Parameters.{Parameters}
use Rattle.values.specs.declared.place.Offer.{Offer}
use Rattle.readout.specs.Facts.{row_in, rows_in}
use Rattle.faultlines.specs.Missing.{missing_parameters_numbers, missing_price_numbers}
use Rattle.forms.specs.Parts.{parts_of}
use Rattle.readout.specs.Read.{RowOffer}

-- an offer whose price is missing
abbrev pub unpriced : (edition row : ℕ) → Offer → Value → List (List ℕ)
unpriced edition row o (Given price) = []
unpriced edition row o Missing = missing_price_numbers edition row o.resource o.step ∷ []

-- a row whose price is missing, where it is there
abbrev pub unpriced_row : (edition row : ℕ) → RowOffer → List (List ℕ)
unpriced_row edition row (Some o) = unpriced edition row o o.price
unpriced_row edition row None = []

-- the parameters, and then every row
unfoldable pub missing_parts : List ℕ → ℕ → Parameters → List (List ℕ)
missing_parts b edition p =
    missing_parameters_numbers p ∷ parts_of (λ row. unpriced_row edition row (row_in b row)) (rows_in b)
