-- The contract of `region_curve` leaves one curve.
-- Assumes nothing.
use mathlib.Core.Path.{◌≡◌, sym, ◌∙◌}
use Rattle.values.specs.declared.head.Parameters.{Parameters}
use Rattle.curve.specs.declared.Curve.{Curve}
use Rattle.region.proofs.region_curve.Reads as region-curve

pub region-curve-decided : (p : Parameters) (r s : Curve)
    → region-curve.Post tt (p, tt) r (p, tt) → region-curve.Post tt (p, tt) s (p, tt) → r ≡ s
region-curve-decided p r s e f = e.0 ∙ sym f.0
