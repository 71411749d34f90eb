-- `row_value` reads a value of a row by its kind.
-- Assumes nothing.
use mathlib.Core.Path.{ap, ◌∙◌}
use Rattle.values.specs.declared.Value.TheVariants.{Given}
use Rattle.plain.proofs.Shows.{value-missing, value-chosen}
use Rattle.plain.proofs.given.row_value.Goals as goal

pub returns-then-v-ne4 : goal.returns-then-v-ne4
returns-then-v-ne4 c = ap Given c.number_in-number.ensures ∙ value-chosen _ c.if-v-ne4.true

pub returns-else-v-ne4 : goal.returns-else-v-ne4
returns-else-v-ne4 c = value-missing _ c.if-v-ne4.false
