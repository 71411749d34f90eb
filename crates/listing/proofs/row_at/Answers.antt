-- `row_at` shows the offer that a row's own bytes hold.
-- Assumes nothing.
use mathlib.Core.Path.{◌∙◌}
use native.Mathlib.Omega.{arith}
use Rattle.listing.proofs.Listings.{row-headed, row_inside, row_read}
use Rattle.listing.proofs.row_at.Goals as goal

pub row_bytes-requires : goal.row_bytes-requires
row_bytes-requires c = omega (arith, row_inside _ _ c.requires)

pub edition-requires : goal.edition-requires
edition-requires c = row-headed _ _ c.requires

pub returns : goal.returns
returns c =
    c.offer_out.ensures
    ∙ row_read _ _ c.requires _ _ _ c.row_bytes.ensures.0 c.edition.ensures.0 c.offer_in.ensures
