-- The contract of the price leaves one answer: any two that it allows for the same arguments coincide.
-- Assumes nothing.
use mathlib.Core.Path.{◌≡◌, sym, ◌∙◌}
use Rattle.curve.specs.declared.Curve.{Curve}
use Rattle.levels.specs.declared.level.Level.{Level}
use Rattle.pricing.proofs.clearing_price.Reads as clearing-price
use Rattle.pricing.specs.Price.{ClearingPrice}

-- the price, or that there is none, by the contract of `clearing_price`
pub clearing-price-decided : (c : Curve) (level : Level) (r s : ClearingPrice)
    → clearing-price.Post tt (c, (level, tt)) r (c, (level, tt))
    → clearing-price.Post tt (c, (level, tt)) s (c, (level, tt)) → r ≡ s
clearing-price-decided c level r s e f = e ∙ sym f
