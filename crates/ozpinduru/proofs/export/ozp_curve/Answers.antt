-- `ozp_curve` shows the points of the curve, or the refusal of its parameters.
-- Assumes nothing.
use mathlib.Core.Path.{◌∙◌}
use Rattle.ozpinduru.proofs.Exports.{given-ranged, curve-refused, curve-made}
use Rattle.ozpinduru.proofs.export.ozp_curve.Goals as goal

pub returns-in-Err : goal.returns-in-Err
returns-in-Err c =
    rw (c.curve_refused.ensures, c.number.ensures, c.place.ensures)
    (curve-refused _ _ c.parameters_in-p.ensures _ c.parameters_verdict.ensures _ c.in-Err.is)

pub region_curve-requires : goal.region_curve-requires
region_curve-requires c =
    given-ranged _ _ c.parameters_in-p.ensures _ c.parameters_verdict.ensures
    c.in_default.is

pub returns : goal.returns
returns c =
    c.curve.ensures
    ∙ curve-made _ _ c.parameters_in-p.ensures _ c.parameters_verdict.ensures c.in_default.is _
    c.region_curve.ensures.0
