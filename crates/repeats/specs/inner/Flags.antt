-- Which two of a table's 8,192 flags a resource number has.
-- Assumes nothing.
use Rattle.std.specs.Prelude.{ℕ, ◌+◌, ◌*◌, ◌/◌, ◌%◌}

-- the number's low and its high half, added: numbers that agree in one half still spread
abbrev pub flag_of_sum : ℕ → ℕ
flag_of_sum x = (x % 65536 + x / 65536) % 8192

-- the halves, each moved on, multiplied: numbers whose halves add up to the same still spread
abbrev pub flag_of_product : ℕ → ℕ
flag_of_product x = (x % 65536 + 40503) * (x / 65536 + 12345) / 128 % 8192
