-- `terms_of` meets its contract, field by field.
-- Assumes nothing.
use Rattle.region.proofs.terms_of.Goals as goal

pub returns : goal.returns
returns c =
    simp (
      c.number_held-4.ensures,
      c.number_held-3.ensures,
      c.number_held-2.ensures,
      c.number_held.ensures,
    )
