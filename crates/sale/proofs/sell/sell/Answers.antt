-- `sell` sells the rows of columns on a curve.
-- Assumes nothing.
use Rattle.sale.proofs.SaleLaws.{stops-own, sold-columns}
use Rattle.sale.proofs.sell.sell.Goals as goal

pub share_out-requires : goal.share_out-requires
share_out-requires c =
    record {
      rows_in_bounds = c.requires.1;
      stops_at = stops-own _ _ _ c.cleared_level-level.ensures.0;
    }

pub returns : goal.returns
returns c =
    let r = c.args.rows.now in
    let stops = c.cleared_level-level.ensures.0 in
    sold-columns r.asks.prices.now r.asks.quantities.now r.stamps.now r.resources.now r.steps.now
    _ _ _ _ _ _ _ r.asks.listed stops.total (stops-own _ _ _ stops) c.clearing_price.ensures
    c.share_out.ensures
