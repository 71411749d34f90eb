-- How the rules of settlement read a minimum block that may not be there.
-- Assumes nothing.
use Rattle.std.specs.Prelude.{ℕ}
use Rattle.std.proofs.Math.Option.{Option, none, some}
use Rattle.values.specs.declared.Value.{Value}
use Rattle.values.specs.declared.Value.TheVariants.{Given, Missing}

-- a value that is missing is none, whatever it may be of
abbrev pub optional : Value → Option ℕ
optional (Given number) = some number
optional Missing = none
