-- The bytes that numbers and values are written as, least byte first.
--
-- In order: numbers of 16, 32 and 64 bits; bytes of zero; a value that is given or missing, and its mark.
-- Assumes nothing.
use Rattle.std.specs.Prelude.{ℕ, zero, suc, ◌/◌, ◌%◌, ◌^◌, List, [], ◌∷◌, ◌++◌}
use Rattle.values.specs.declared.Value.{Value}
use Rattle.values.specs.declared.Value.TheVariants.{Given, Missing}

unfoldable pub u16_bytes : ℕ → List ℕ
u16_bytes n = n % 256 ∷ n / 256 % 256 ∷ []

unfoldable pub u32_bytes : ℕ → List ℕ
u32_bytes n = u16_bytes n ++ u16_bytes (n / 65536)

unfoldable pub u64_bytes : ℕ → List ℕ
u64_bytes n = u32_bytes n ++ u32_bytes (n / 4294967296)

-- so many bytes of zero
unfoldable pub zeros : ℕ → List ℕ
zeros zero = []
zeros (suc n) = 0 ∷ zeros n

-- the bytes of a value: its number where it is given, and zeros where it is missing
abbrev pub value_bytes : Value → List ℕ
value_bytes (Given number) = u32_bytes number
value_bytes Missing = zeros 4

-- what a value adds to the marks: its bit where it is given
abbrev pub mark_of : ℕ → Value → ℕ
mark_of bit (Given number) = 2 ^ bit
mark_of bit Missing = 0
