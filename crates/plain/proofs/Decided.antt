-- The contract of each public function of this crate leaves one answer: any two that it allows for the same values coincide.
--
-- In order: what a caller hands in; curves.
-- Assumes nothing.
use mathlib.Core.Path.{◌≡◌, sym, ◌∙◌}
use Prim.Native.Nat.{ℕ}
use Rattle.values.specs.declared.head.Parameters.{Parameters}
use Rattle.values.specs.declared.place.Offer.{Offer}
use Rattle.curve.specs.declared.Curve.{Curve}
use Rattle.plain.specs.declared.structs.OzpCurve.{OzpCurve}
use Rattle.plain.specs.declared.structs.OzpParameters.{OzpParameters}
use Rattle.plain.specs.declared.structs.OzpPrice.{OzpPrice}
use Rattle.plain.specs.declared.structs.OzpRow.{OzpRow}
use Rattle.plain.proofs.given.offer_in.Reads as offer-in
use Rattle.plain.proofs.given.parameters_in.Reads as parameters-in
use Rattle.plain.proofs.plotted.curve.Reads as curve
use Rattle.plain.proofs.plotted.curve_refused.Reads as curve-refused
use Rattle.plain.proofs.plotted.price.Reads as price
use Rattle.plain.proofs.plotted.price_refused.Reads as price-refused
use Rattle.curve.specs.Exact.{ExactCurvePrice}

-- ---- what a caller hands in

-- parameters, by the contract of `parameters_in`
pub parameters-in-decided : (p : OzpParameters) (r s : Parameters)
    → parameters-in.Post tt (p, tt) r (p, tt) → parameters-in.Post tt (p, tt) s (p, tt) → r ≡ s
parameters-in-decided p r s e f = e ∙ sym f

-- a row that is handed in, by the contract of `offer_in`
pub offer-in-decided : (row : OzpRow) (r s : Offer)
    → offer-in.Post tt (row, tt) r (row, tt) → offer-in.Post tt (row, tt) s (row, tt) → r ≡ s
offer-in-decided row r s e f = e ∙ sym f

-- ---- curves

-- the points of a curve, by the contract of `curve`, and of refused parameters
pub plotted-curve-decided : (c : Curve) (r s : OzpCurve) → curve.Post tt (c, tt) r (c, tt) → curve.Post tt (c, tt) s (c, tt) → r ≡ s
plotted-curve-decided c r s e f = e ∙ sym f

pub curve-refused-decided : (number place : ℕ) (r s : OzpCurve)
    → curve-refused.Post tt (number, (place, tt)) r (number, (place, tt))
    → curve-refused.Post tt (number, (place, tt)) s (number, (place, tt)) → r ≡ s
curve-refused-decided number place r s e f = e ∙ sym f

-- the price of a curve at a quantity, by the contract of `price`, and of refused parameters
pub plotted-price-decided : (p : ExactCurvePrice) (r s : OzpPrice) → price.Post tt (p, tt) r (p, tt) → price.Post tt (p, tt) s (p, tt) → r ≡ s
plotted-price-decided p r s e f = e ∙ sym f

pub price-refused-decided : (number place : ℕ) (r s : OzpPrice)
    → price-refused.Post tt (number, (place, tt)) r (number, (place, tt))
    → price-refused.Post tt (number, (place, tt)) s (number, (place, tt)) → r ≡ s
price-refused-decided number place r s e f = e ∙ sym f
