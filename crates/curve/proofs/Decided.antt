-- The contracts of the curve leave one answer: any two that a contract allows for the same arguments coincide.
-- Assumes nothing.
use mathlib.Core.Path.{◌≡◌, sym, ◌∙◌}
use Prim.Native.Nat.{ℕ}
use Rattle.units.specs.declared.CentsPerMwDay.{CentsPerMwDay}
use Rattle.curve.specs.declared.Curve.{Curve}
use Rattle.curve.specs.declared.Terms.{Terms}
use Rattle.curve.specs.declared.Weights.{Weights}
use Rattle.curve.proofs.points.Reads as points
use Rattle.curve.proofs.tenth_price.Reads as tenth-price
use Rattle.curve.proofs.exact.price_at.Reads as price-at
use Rattle.curve.specs.Exact.{ExactCurvePrice}

-- the points, by the contract of `points`
pub points-decided : (w : Weights) (whole : ℕ) (t : Terms) (r s : Curve)
    → points.Post tt (w, (whole, (t, tt))) r (w, (whole, (t, tt)))
    → points.Post tt (w, (whole, (t, tt))) s (w, (whole, (t, tt))) → r ≡ s
points-decided w whole t r s e f = e.0 ∙ sym f.0

-- the price at a quantity up to Q3, by the contract of `tenth_price`
pub tenth-price-decided : (c : Curve) (k : ℕ) (r s : CentsPerMwDay)
    → tenth-price.Post tt (c, (k, tt)) r (c, (k, tt)) → tenth-price.Post tt (c, (k, tt)) s (c, (k, tt)) → r ≡ s
tenth-price-decided c k r s e f = λ i. record { 0 = (e.0 ∙ sym f.0) i }

-- the price, or that there is none, by the contract of `price_at`
pub curve-price-decided : (c : Curve) (k : ℕ) (r s : ExactCurvePrice)
    → price-at.Post tt (c, (k, tt)) r (c, (k, tt)) → price-at.Post tt (c, (k, tt)) s (c, (k, tt)) → r ≡ s
curve-price-decided c k r s e f = e ∙ sym f
