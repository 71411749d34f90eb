-- Refusal 6: what is missing is no number.
--
-- In order: a missing price, when clearing and for soundness; a given price, which may be 0; a missing parameter.
-- Assumes nothing.
use mathlib.Core.Path.{◌≡◌, ◌∙◌}
use mathlib.Core.Bool.{Bool, true, false, ◌&&◌}
use Prim.Native.Nat.{ℕ}
use lib.Dec.{leb}
use Rattle.values.specs.Refusals.{no_price, offer_out_of_range, missing_parameter, unless}
use Rattle.values.specs.declared.Value.TheVariants.{Given, Missing}
use Rattle.values.specs.declared.head.Parameters.{Parameters}
use Rattle.values.specs.declared.place.Offer.{Offer}
use Rattle.limits.specs.Parameters.{within, given_within, missing_fault}
use Rattle.limits.specs.Offers.{step_within, offer_in_range, offer_fault}
use Rattle.limits.proofs.Tested.{offer_fault-tested}

-- A missing price is refused when clearing, whatever the other values are: it is never read as 0.
pub offer_fault-missing : (edition : ℕ) (o : Offer) (row : ℕ) → o.price ≡ Missing → offer_fault true edition o row ≡ no_price row
offer_fault-missing edition o row e = offer_fault-tested true edition o row ∙ simp e

-- Soundness does not ask for a price: one that is missing passes, and the other values decide.
pub offer_fault-sound : (edition : ℕ) (o : Offer) (row : ℕ)
    → o.price ≡ Missing
    → offer_fault false edition o row
    ≡ unless
    (leb 1 o.resource
    && (leb 1 o.seller
    && (within 1 200000 o.quantity
    && (given_within 1 o.quantity o.block
    && step_within edition o.step))))
    (offer_out_of_range row)
unfolding offer_in_range
offer_fault-sound edition o row e = offer_fault-tested false edition o row ∙ simp e

-- A given price, 0 among them, is judged by its range alone.
pub offer_fault-given : (prices_needed : Bool) (edition : ℕ) (o : Offer) (row number : ℕ)
    → o.price ≡ Given number → offer_fault prices_needed edition o row ≡ unless (offer_in_range edition o) (offer_out_of_range row)
offer_fault-given true edition o row number e = offer_fault-tested true edition o row ∙ simp e
offer_fault-given false edition o row number e = offer_fault-tested false edition o row ∙ simp e

-- A missing cost is refused first, whatever the other parameters are.
pub missing_fault-cost : (p : Parameters) → p.cost ≡ Missing → missing_fault p ≡ missing_parameter 2
unfolding missing_fault
missing_fault-cost p e = simp e
