-- `written` gives the number that a value is written as: its own, and 0 where it is missing.
-- Assumes nothing.
use mathlib.Core.Path.{sym, ap, ◌∙◌}
use Rattle.values.specs.declared.Value.TheVariants.{Missing}
use Rattle.encoding.specs.Numbers.{value_bytes}
use Rattle.encoding.proofs.Values.{value_bytes-written}
use Rattle.places.proofs.bytes.written.Goals as goal

pub returns-in-Given : goal.returns-in-Given
returns-in-Given c = simp c.in-Given.is

pub returns-in-Missing : goal.returns-in-Missing
returns-in-Missing c = sym (value_bytes-written Missing) ∙ ap value_bytes (sym c.in-Missing.is)
