-- `values::head::parameters_in` meets its contract, field by field.
-- Assumes nothing.
use Rattle.values.specs.Values.{marked}
use Rattle.values.specs.Head.{parameters_of}
use Rattle.values.proofs.head.parameters_in.Goals as goal

pub returns : goal.returns
unfolding parameters_of marked
returns c =
    simp (
      c.value_at-5.ensures,
      c.value_at-4.ensures,
      c.value_at-3.ensures,
      c.value_at-2.ensures,
      c.value_at.ensures,
      c.u16_at.ensures.0,
    )
