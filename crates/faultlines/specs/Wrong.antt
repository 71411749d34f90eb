-- What is wrong with a row: its values, and which are out of range; the rule of steps that it breaks.
-- Assumes nothing.
use Rattle.std.specs.Prelude.{ℕ, not, cond, List, [], ◌∷◌, eqb, ltb}
use Rattle.values.specs.Values.{held}
use Rattle.values.specs.declared.place.Offer.{Offer}
use Rattle.limits.specs.Parameters.{within, given_within}
use Rattle.limits.specs.Offers.{step_within}
use Rattle.wording.specs.Words.{as_one, given}

-- a step: none is told in edition 1, or it is within its range, or not
abbrev pub step_word : ℕ → ℕ → ℕ
step_word edition step = cond (eqb edition 1) 0 (cond (step_within edition step) 1 2)

-- behind each value 1 where it is out of its range
unfoldable pub values_numbers : ℕ → Offer → List ℕ
values_numbers edition o =
    o.resource
    ∷ as_one (ltb o.resource 1)
    ∷ o.seller
    ∷ as_one (ltb o.seller 1)
    ∷ as_one (given o.price)
    ∷ held o.price
    ∷ as_one (not (given_within 0 1000000 o.price))
    ∷ o.quantity
    ∷ as_one (not (within 1 200000 o.quantity))
    ∷ as_one (given o.block)
    ∷ held o.block
    ∷ as_one (not (given_within 1 o.quantity o.block))
    ∷ step_word edition o.step
    ∷ o.step
    ∷ o.step
    ∷ []

unfoldable pub rules_numbers : ℕ → List ℕ
rules_numbers cause = cause ∷ []
