-- Which of a form's words fit: the parts of a choice are counted from 0. In order: tests; values that are given or missing; prices.
-- Assumes nothing.
use Rattle.std.specs.Prelude.{ℕ, Bool, true, false, cond, eqb, Some, None}
use Rattle.values.specs.declared.Value.{Value}
use Rattle.values.specs.declared.Value.TheVariants.{Given, Missing}
use Rattle.pricing.specs.Price.{ClearingPrice}

-- the number of what is not there: no form shows it
abbrev pub absent : ℕ
absent = 18446744073709551615

-- 1 where a test holds, and else 0
abbrev pub as_one : Bool → ℕ
as_one false = 0
as_one true = 1

-- the first of two tests that holds, and 2 where neither does
abbrev pub first_true : Bool → Bool → ℕ
first_true first second = cond first 0 (cond second 1 2)

abbrev pub given : Value → Bool
given (Given number) = true
given Missing = false

-- a value: missing, zero, or another number
abbrev pub valued : Value → ℕ
valued (Given number) = cond (eqb number 0) 1 2
valued Missing = 0

-- dollars per MW-year: missing, zero, one dollar, or another number of them
abbrev pub yearly : Value → ℕ
yearly (Given number) = cond (eqb number 0) 1 (cond (eqb number 1) 2 3)
yearly Missing = 0

-- the margin of a year: none where the year needs none, missing, zero, or another number
abbrev pub margined : Bool → Value → ℕ
margined needed (Given number) = cond (eqb number 0) 2 3
margined needed Missing = as_one needed

abbrev pub cents_of : ClearingPrice → ℕ
cents_of (Some cents) = cents.0
cents_of None = absent

-- a price: over zero, zero, or none
abbrev pub price_word : ClearingPrice → ℕ
price_word (Some cents) = as_one (eqb cents.0 0)
price_word None = 2
