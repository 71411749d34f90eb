-- `values::place::offer_in` meets its contract, field by field.
-- Assumes nothing.
use Rattle.values.specs.Values.{marked}
use Rattle.values.specs.Place.{offer_of}
use Rattle.values.proofs.place.offer_in.Goals as goal

pub returns : goal.returns
unfolding offer_of marked
returns c =
    simp (
      c.step_of.ensures,
      c.u64_at.ensures,
      c.value_at-2.ensures,
      c.u32_at-3.ensures.0,
      c.value_at.ensures,
      c.u32_at-2.ensures.0,
      c.u32_at.ensures.0,
    )
