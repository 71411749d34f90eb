-- A refusal, with its place and what is wrong there. In order: 1, 2 and 3; 4 and 5; the first lines of 6, 7, 8 and 10.
-- Assumes nothing.
use Rattle.std.specs.Prelude.{ℕ, cond, List, [], ◌∷◌, eqb, ltb}
use Rattle.values.specs.Values.{held}
use Rattle.values.specs.declared.head.Parameters.{Parameters}
use Rattle.limits.specs.Parameters.{offset_most}
use Rattle.wording.specs.Words.{as_one}

-- a length: over that of a book, one byte, or any other
unfoldable pub length_numbers : ℕ → List ℕ
length_numbers bytes = cond (ltb 20992 bytes) 2 (as_one (eqb bytes 1)) ∷ bytes ∷ []

unfoldable pub check_numbers : ℕ → List ℕ
check_numbers block = block ∷ block ∷ []

unfoldable pub layout_numbers : ℕ → ℕ → ℕ → List ℕ
layout_numbers block test byte = block ∷ block ∷ byte ∷ test ∷ []

-- the number of a field: 1 delivery year, 2 C, 3 E, 4 F, 5 R, 6 the reserve margin
unfoldable pub field_number : Parameters → ℕ → ℕ
field_number p field =
    cond (eqb field 1) p.year
    (cond (eqb field 2) (held p.cost)
    (cond (eqb field 3) (held p.offset)
    (cond (eqb field 4) (held p.outage) (cond (eqb field 5) (held p.requirement) (held p.margin)))))

-- where it is out of range, the number as its field is written; and the most that E can be
unfoldable pub parameter_numbers : ℕ → ℕ → Parameters → List ℕ
parameter_numbers number field p =
    let value = field_number p field in
    number
    ∷ field
    ∷ field
    ∷ as_one (eqb number 5)
    ∷ cond (eqb number 5) field 0
    ∷ value
    ∷ value
    ∷ value
    ∷ value
    ∷ value
    ∷ value
    ∷ as_one (eqb number 5)
    ∷ field
    ∷ offset_most p.cost
    ∷ []

unfoldable pub refused_row_numbers : ℕ → ℕ → ℕ → ℕ → List ℕ
refused_row_numbers number row resource first = number ∷ row ∷ row ∷ resource ∷ number ∷ first ∷ []
