-- `put_offer` puts the line of a row with the resource that its own bytes hold.
-- Assumes nothing.
use Rattle.report.proofs.Fitting.{row_told}
use native.Mathlib.Omega.{arith}
use Rattle.report.proofs.put_offer.Goals as goal

pub returns : goal.returns
returns c =
    let put = c.put_row.ensures in (
      row_told _ _ _ _ _ _ _ _ _ c.row_bytes.ensures.0 c.edition.ensures.0 c.offer_in-o.ensures c.make_whole.ensures put.0,
      omega (arith, put.1),
    )
