-- `offer_of` reads the offer of a row that is there.
-- Assumes nothing.
use native.Mathlib.Omega.{arith}
use Rattle.readout.proofs.Offered.{there-inside, there-offer, row-offered}
use Rattle.readout.proofs.offer_of.Goals as goal

pub row_bytes-requires : goal.row_bytes-requires
row_bytes-requires c = there-inside _ _ (omega (arith, c.rows_of.ensures.0))

pub edition-requires : goal.edition-requires
edition-requires c = omega (arith, there-inside c.args.book.now c.args.row (omega (arith, c.rows_of.ensures.0)))

pub returns-then-row-rows_of : goal.returns-then-row-rows_of
returns-then-row-rows_of c =
    row-offered _ _ _ (omega (arith, c.rows_of.ensures.0))
    (there-offer _ _ (omega (arith, c.rows_of.ensures.0)) c.edition.ensures.0 c.row_bytes.ensures.0 c.offer_in.ensures)
