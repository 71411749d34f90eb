-- `same_rows` compares the offers of two rows.
-- Assumes nothing.
use mathlib.Core.Path.{ap₂, ◌∙◌}
use Rattle.compare.specs.Same.{same_offer}
use Rattle.compare.proofs.Sames.{offer-equal}
use Rattle.compare.proofs.walk.same_rows.Goals as goal

pub returns : goal.returns
returns c = c.eq.ensures ∙ offer-equal _ _ ∙ ap₂ same_offer c.offer_at.ensures c.offer_at-2.ensures
