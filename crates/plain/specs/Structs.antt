-- What the plain structs of numbers have in common.
--
-- No kind is 0: 1 what was asked for is there, 2 there is none, 3 refused, 4 a value is missing, 5 two books differ. A field that
-- has no value holds all ones.
-- Assumes nothing.
use Rattle.std.specs.Prelude.{ℕ}

-- all ones, in 32 bits and in 64: no value
abbrev pub no_value : ℕ
no_value = 4294967295

abbrev pub no_amount : ℕ
no_amount = 18446744073709551615
