-- Numbers as they are read on a page: thousands separated, and with a point where a number counts parts.
-- In order: where a comma stands, digits with commas, what stands behind the point, and a number with both.
-- Assumes nothing.
use Rattle.std.specs.Prelude.{ℕ, zero, suc, ◌/◌, ◌%◌, ◌^◌, cond, ◌&&◌, List, [], ◌∷◌, ◌++◌, eqb, ltb, length}
use Rattle.text.specs.Number.{number_text, rest_text}

-- a comma where a multiple of three digits follows
unfoldable pub comma : ℕ → List ℕ
comma left = cond (ltb 0 left && eqb (left % 3) 0) (44 ∷ []) []

-- digits with their thousands separated
unfoldable pub grouped : List ℕ → List ℕ
grouped [] = []
grouped (digit ∷ rest) = digit ∷ (comma (length rest) ++ grouped rest)

-- a point and `places` digits, where there are any
unfoldable pub pointed : ℕ → ℕ → List ℕ
pointed zero n = []
pointed (suc p) n = 46 ∷ rest_text (suc p) n

-- n parts, of which 10 ^ places make one whole
unfoldable pub grouped_text : ℕ → ℕ → List ℕ
grouped_text places n = grouped (number_text (n / 10 ^ places)) ++ pointed places n
