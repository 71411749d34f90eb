-- `works_at` works on the curve that the parameters select.
-- Assumes nothing.
use mathlib.Core.Path.{ap, ◌∙◌}
use Rattle.curve.specs.declared.Curve.{Curve}
use Rattle.columns.specs.inner.Sides.{offers_in}
use Rattle.workings.specs.inner.Works.{works_at}
use Rattle.workings.proofs.Columned.{stop-priced, stop-price, works-columns}
use Rattle.workings.proofs.joined.works_at.Goals as goal

pub clearing_price-price-requires : goal.clearing_price-price-requires
clearing_price-price-requires c = stop-priced _ _ _ c.stop_at-stop.ensures c.region_curve.ensures.1

pub row_share_at-requires : goal.row_share_at-requires
row_share_at-requires c = c.args.rows.now.ordered.positive

pub ladder_at-requires : goal.ladder_at-requires
ladder_at-requires c = stop-price _ _ _ c.stop_at-stop.ensures

pub returns : goal.returns
returns c =
    let a = c.args in
    works-columns a.rows.now _ _ c.stop_at-stop.ensures _ _ _ _ _ _ _ _ _
    c.clearing_price-price.ensures c.row_share_at.ensures c.worked_row.ensures c.ladder_at.ensures c.contest_at.ensures
    ∙ ap (λ (d : Curve). works_at d (offers_in a.rows.now) a.rows.now.leasts.now a.row a.rung a.place) c.region_curve.ensures.0
