-- Values that are given or missing, and the marks that say which.
-- Assumes nothing.
use Rattle.std.specs.Prelude.{ℕ, ◌/◌, ◌%◌, ◌^◌, Bool, true, false, ◌||◌, eqb}
use Rattle.values.specs.declared.Value.{Value}
use Rattle.values.specs.declared.Value.TheVariants.{Given, Missing}

-- the mark of a bit of the marks: its value is given
unfoldable pub marked : ℕ → ℕ → Bool
marked marks bit = eqb (marks / 2 ^ bit % 2) 1

-- a number whose mark says that it is given is that number; one whose mark says that it is absent is missing
abbrev pub value_of : Bool → ℕ → Value
value_of true number = Given number
value_of false number = Missing

-- a value not given has zero bytes
abbrev pub absent_is_zero : Bool → ℕ → Bool
absent_is_zero mark number = mark || eqb number 0

-- The number that is held. Where there is none it is all ones, a number that no range of the outline admits; it is asked
-- only of values that a refusal has shown to be given.
abbrev pub held : Value → ℕ
held (Given number) = number
held Missing = 4294967295
