-- Refusals 6, 7, 8 and 10: offers with no price, out of range, with a resource number of an earlier row, or past step 1 and not
-- behind the step before it.
--
-- The offers of a book are a function of the row. Clearing needs every price; soundness does not.
-- Assumes nothing.
use Rattle.std.specs.Prelude.{ℕ, ◌-◌, Bool, cond, ◌&&◌, leb, eqb}
use Rattle.values.specs.Refusals.{no_price, offer_out_of_range, repeated_resource, broken_steps, unless, and_then, first, Verdict, no_fault}
use Rattle.values.specs.declared.Value.{Value}
use Rattle.values.specs.declared.Value.TheVariants.{Given, Missing}
use Rattle.values.specs.declared.place.Offer.{Offer}
use Rattle.limits.specs.Parameters.{within, given_within}
use Rattle.repeats.specs.Repeats.{no_repeat}
use Rattle.steps.specs.Steps.{step_holds}

-- 6: the row's price is missing
abbrev pub price_fault : Value → ℕ → Verdict
price_fault (Given price) row = no_fault
price_fault Missing row = no_price row

-- a step that an offer can have in a book of this edition: 1 to 10, and in edition 1 only 1
abbrev pub step_within : ℕ → ℕ → Bool
step_within edition step = cond (eqb edition 1) (eqb step 1) (within 1 10 step)

-- every value that the offer gives is within its range
unfoldable pub offer_in_range : ℕ → Offer → Bool
offer_in_range edition o =
    leb 1 o.resource
    && (leb 1 o.seller
    && (given_within 0 1000000 o.price
    && (within 1 200000 o.quantity
    && (given_within 1 o.quantity o.block
    && step_within edition o.step))))

-- 6, where prices are needed, and 7
unfoldable pub offer_fault : Bool → ℕ → Offer → ℕ → Verdict
offer_fault prices_needed edition o row =
    and_then (cond prices_needed (price_fault o.price row) no_fault) (unless (offer_in_range edition o) (offer_out_of_range row))

-- 8: the row has step 1, and its resource number stands in an earlier row
unfoldable pub repeat_fault : (ℕ → Offer) → ℕ → Verdict
repeat_fault offers row = unless (no_repeat (λ r. (offers r).resource) (λ r. (offers r).step) row) (repeated_resource row)

-- 10: the row, with the offer of the row before it, breaks the rules of steps
unfoldable pub step_fault : Offer → Offer → ℕ → Verdict
step_fault before o row = unless (step_holds before o row) (broken_steps row)

-- rows from 0, each tested for 6, 7, 8, 10
unfoldable pub rows_fault : Bool → ℕ → (ℕ → Offer) → ℕ → Verdict
rows_fault prices_needed edition offers n =
    first
    (λ row.
    and_then (offer_fault prices_needed edition (offers row) row)
    (and_then (repeat_fault offers row) (step_fault (offers (row - 1)) (offers row) row)))
    n
