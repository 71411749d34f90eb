-- `ozp_price_at` shows the price of the curve at a quantity, or the refusal of its parameters.
-- Assumes nothing.
use mathlib.Core.Path.{◌∙◌}
use Rattle.ozpinduru.proofs.Exports.{given-ranged, price-refused, price-made}
use Rattle.ozpinduru.proofs.export.ozp_price_at.Goals as goal

pub returns-in-Err : goal.returns-in-Err
returns-in-Err c =
    rw (c.price_refused.ensures, c.number.ensures, c.place.ensures)
    (price-refused _ _ c.parameters_in-p.ensures _ c.parameters_verdict.ensures _ _ c.in-Err.is)

pub region_curve-requires : goal.region_curve-requires
region_curve-requires c =
    given-ranged _ _ c.parameters_in-p.ensures _ c.parameters_verdict.ensures
    c.in_default.is

pub returns : goal.returns
returns c =
    c.price.ensures
    ∙ price-made _ _ c.parameters_in-p.ensures _ c.parameters_verdict.ensures c.in_default.is _
    c.region_curve.ensures.0 _ _ c.price_at.ensures
