-- A number as text with a point.
-- Assumes nothing.
use Rattle.std.specs.Prelude.{ℕ, ◌/◌, ◌^◌, List, ◌∷◌, ◌++◌}
use Rattle.text.specs.Number.{number_text, rest_text}

-- n parts, of which 10 ^ places make one whole: the wholes, a point, and the rest
unfoldable pub decimal_text : ℕ → ℕ → List ℕ
decimal_text places n = number_text (n / 10 ^ places) ++ (46 ∷ rest_text places n)
