-- Bytes put into a list at a place, and the marks of values by their weight.
-- Assumes nothing.
use Rattle.std.specs.Prelude.{ℕ, ◌+◌, List, ◌++◌, length, take, drop}
use Rattle.values.specs.declared.Value.{Value}
use Rattle.values.specs.declared.Value.TheVariants.{Given, Missing}

-- a list in which other bytes stand from a place on
unfoldable pub put : List ℕ → ℕ → List ℕ → List ℕ
put b at s = take at b ++ (s ++ drop (at + length s) b)

-- the weight of a value's bit where it is given
abbrev pub weighed : ℕ → Value → ℕ
weighed weight (Given number) = weight
weighed weight Missing = 0
