-- `value_in` reads a value by its kind.
-- Assumes nothing.
use native.Mathlib.Omega.{arith}
use Rattle.plain.proofs.Shows.{value-given, value-missing, value-neither}
use Rattle.plain.proofs.given.value_in.Goals as goal

pub returns-in-1 : goal.returns-in-1
returns-in-1 c = value-given _ c.in-1.is

pub returns-in-4 : goal.returns-in-4
returns-in-4 c = value-missing _ c.in-4.is

pub returns-in_default : goal.returns-in_default
returns-in_default c = value-neither _ (λ e. omega arith) (λ e. omega arith)
