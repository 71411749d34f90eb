-- The rules of steps: a resource sells in up to ten steps, which stand in neighbouring rows, counted up from 1.
-- Assumes nothing.
use Rattle.std.specs.Prelude.{ℕ, ◌+◌, Bool, true, false, ◌&&◌, ◌||◌, eqb, leb, ltb}
use Rattle.values.specs.declared.Value.{Value}
use Rattle.values.specs.declared.Value.TheVariants.{Given, Missing}
use Rattle.values.specs.declared.place.Offer.{Offer}

-- a price that does not fall from the one before it; they are compared only where both are given
abbrev pub not_cheaper : Value → Value → Bool
not_cheaper (Given before) (Given price) = leb before price
not_cheaper (Given before) Missing = true
not_cheaper Missing price = true

-- an offer with no minimum block
abbrev pub flexible : Value → Bool
flexible (Given block) = false
flexible Missing = true

-- an offer follows the one before it: the same resource, a step more, at a price that does not fall, with no minimum block
unfoldable pub step_follows : Offer → Offer → Bool
step_follows before o =
    eqb o.resource before.resource
    && (eqb o.step (before.step + 1)
    && (not_cheaper before.price o.price
    && flexible o.block))

-- a row keeps the rules: it has step 1, or there is a row before it, whose offer it follows
unfoldable pub step_holds : Offer → Offer → ℕ → Bool
step_holds before o row = eqb o.step 1 || (ltb 0 row && step_follows before o)
