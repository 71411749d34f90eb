-- `resource_of` reads the offer of a row that is there.
-- Assumes nothing.
use mathlib.Core.Path.{ap}
use Rattle.values.specs.declared.place.Offer.{Offer}
use Rattle.readout.proofs.Offered.{there-inside, there-offer}
use Rattle.readout.proofs.resource_of.Goals as goal

pub row_bytes-requires : goal.row_bytes-requires
row_bytes-requires c = there-inside _ _ c.requires.1

pub returns : goal.returns
returns c =
    ap (λ (o : Offer). o.resource) (there-offer _ _ c.requires.1 c.requires.0 c.row_bytes.ensures.0 c.offer_in.ensures)
