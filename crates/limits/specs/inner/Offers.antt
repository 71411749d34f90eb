-- Whether a value is given.
-- Assumes nothing.
use Rattle.std.specs.Prelude.{Bool, true, false}
use Rattle.values.specs.declared.Value.{Value}
use Rattle.values.specs.declared.Value.TheVariants.{Given, Missing}

-- a value that is given
abbrev pub is_given : Value → Bool
is_given (Given number) = true
is_given Missing = false
