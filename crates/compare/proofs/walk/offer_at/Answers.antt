-- `offer_at` reads a row's own bytes by the edition that the book states.
-- Assumes nothing.
use mathlib.Core.Path.{ap₂, ◌∙◌}
use Rattle.values.specs.Place.{offer_of}
use Rattle.layout.specs.Read.{row_offer}
use Rattle.compare.proofs.walk.offer_at.Goals as goal

pub returns : goal.returns
unfolding row_offer
returns c = c.offer_in.ensures ∙ ap₂ offer_of c.edition.ensures.0 c.row_bytes.ensures.0
