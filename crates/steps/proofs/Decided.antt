-- The contracts of the rules of steps leave one answer: any two that a contract allows for the same offers coincide.
-- Assumes nothing.
use mathlib.Core.Path.{◌≡◌, sym, ◌∙◌}
use mathlib.Core.Bool.{Bool}
use Rattle.values.specs.declared.Value.{Value}
use Rattle.values.specs.declared.place.Offer.{Offer}
use Rattle.steps.proofs.not_cheaper.Reads as not_cheaper
use Rattle.steps.proofs.is_flexible.Reads as is-flexible
use Rattle.steps.proofs.step_follows.Reads as step_follows

-- whether a price does not fall from the one before it, by the contract of `not_cheaper`
pub not-cheaper-decided : (before price : Value) (r s : Bool)
    → not_cheaper.Post tt (before, (price, tt)) r (before, (price, tt))
    → not_cheaper.Post tt (before, (price, tt)) s (before, (price, tt)) → r ≡ s
not-cheaper-decided before price r s e f = e ∙ sym f

-- whether there is no minimum block, by the contract of `is_flexible`
pub is-flexible-decided : (block : Value) (r s : Bool)
    → is-flexible.Post tt (block, tt) r (block, tt) → is-flexible.Post tt (block, tt) s (block, tt) → r ≡ s
is-flexible-decided block r s e f = e ∙ sym f

-- whether an offer follows the one before it, by the contract of `step_follows`
pub step-follows-decided : (before o : Offer) (r s : Bool)
    → step_follows.Post tt (before, (o, tt)) r (before, (o, tt))
    → step_follows.Post tt (before, (o, tt)) s (before, (o, tt)) → r ≡ s
step-follows-decided before o r s e f = e ∙ sym f
