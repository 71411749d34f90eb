-- Refusals 4 and 5: parameters that are missing or out of range. Fields: 1 delivery year, 2 C, 3 E, 4 F, 5 R,
-- 6 the reserve margin.
-- Assumes nothing.
use Rattle.std.specs.Prelude.{ℕ, Bool, true, cond, ◌&&◌, leb}
use Rattle.values.specs.Refusals.{missing_parameter, parameter_out_of_range, unless, and_then, Verdict, no_fault}
use Rattle.values.specs.declared.Value.{Value}
use Rattle.values.specs.declared.Value.TheVariants.{Given, Missing}
use Rattle.values.specs.declared.head.Parameters.{Parameters}

-- a number from a least to a most
abbrev pub within : ℕ → ℕ → ℕ → Bool
within least most number = leb least number && leb number most

-- a value that is missing, or given from a least to a most
abbrev pub given_within : ℕ → ℕ → Value → Bool
given_within least most (Given number) = within least most number
given_within least most Missing = true

-- the delivery years whose curve goes by the reserve margin: 2022 to 2025
unfoldable pub by_margin : ℕ → Bool
by_margin year = within 2022 2025 year

-- 4 of one field: its value is missing
abbrev pub field_fault : ℕ → Value → Verdict
field_fault field (Given number) = no_fault
field_fault field Missing = missing_parameter field

-- 4 of the margin: it is missing in a year whose curve goes by it
abbrev pub margin_fault : ℕ → Value → Verdict
margin_fault year margin = cond (by_margin year) (field_fault 6 margin) no_fault

-- 4: the first missing field
unfoldable pub missing_fault : Parameters → Verdict
missing_fault p =
    and_then (field_fault 2 p.cost)
    (and_then (field_fault 3 p.offset)
    (and_then (field_fault 4 p.outage)
    (and_then (field_fault 5 p.requirement)
    (margin_fault p.year p.margin))))

-- the most that an offset can be: C, and where C is missing 1,000,000
abbrev pub offset_most : Value → ℕ
offset_most (Given cost) = cost
offset_most Missing = 1000000

-- a margin that a year can have: 0 to 5,000 where its curve goes by the margin, and none in any other year, not even 0
abbrev pub margin_within : ℕ → Value → Bool
margin_within year (Given margin) = by_margin year && within 0 5000 margin
margin_within year Missing = true

-- 5: the first field whose value is given and out of range
unfoldable pub range_fault : Parameters → Verdict
range_fault p =
    and_then (unless (within 2022 2099 p.year) (parameter_out_of_range 1))
    (and_then (unless (given_within 1 1000000 p.cost) (parameter_out_of_range 2))
    (and_then (unless (given_within 0 (offset_most p.cost) p.offset) (parameter_out_of_range 3))
    (and_then (unless (given_within 0 5000 p.outage) (parameter_out_of_range 4))
    (and_then (unless (given_within 1000 2000000 p.requirement) (parameter_out_of_range 5))
    (unless (margin_within p.year p.margin) (parameter_out_of_range 6))))))
