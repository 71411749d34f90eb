-- What an offer that passed the tests is: within the outline's ranges, and priced where prices are needed.
--
-- In order: the steps of an edition; an offer within its ranges; one that has a price.
-- Assumes nothing.
use mathlib.Core.Path.{◌≡◌, refl}
use mathlib.Core.Bool.{Bool, true, false, cond}
use Prim.Native.Nat.{ℕ, ◌≤◌}
use native.Mathlib.Omega.{arith}
use lib.Dec.{leb, eqb}
use borrow.Author.Tests.{leb-true, eqb-true}
use Rattle.laws.proofs.Cases.{and_left, and_right}
use Rattle.values.specs.Values.{held}
use Rattle.values.specs.declared.Value.{Value}
use Rattle.values.specs.declared.Value.TheVariants.{Given, Missing}
use Rattle.values.specs.declared.place.Offer.{Offer}
use Rattle.values.specs.declared.refusal.Refusal.TheVariants.{OfferOutOfRange}
use Rattle.values.proofs.Firsts.{unless-passed, and_then-left, and_then-right}
use Rattle.limits.specs.Parameters.{within, given_within}
use Rattle.limits.specs.Offers.{price_fault, step_within, offer_in_range, offer_fault}
use Rattle.limits.specs.Ranges.{SoundOffer, PricedOffer}
use Rattle.limits.proofs.Passing.{within-from, within-to, given-within}
use Rattle.values.specs.Refusals.{no_fault}

-- a step within the range of an edition, which is told by t
step_range : (t : Bool) (step : ℕ) → cond t (eqb step 1) (within 1 10 step) ≡ true → (1 ≤ step) × (step ≤ 10)
step_range true step e = let one = eqb-true step 1 e in (omega arith, omega arith)
step_range false step e = (within-from 1 10 step e, within-to 1 10 step e)

-- the step of an offer within its ranges is one of the edition's
pub offer-step : (edition : ℕ) (o : Offer) → offer_in_range edition o ≡ true → step_within edition o.step ≡ true
unfolding offer_in_range
offer-step edition o e =
    and_right (given_within 1 o.quantity o.block) _
    (and_right (within 1 200000 o.quantity) _
    (and_right (given_within 0 1000000 o.price) _
    (and_right (leb 1 o.seller) _
    (and_right (leb 1 o.resource) _ e))))

-- An offer within its ranges has its values within them, those that it gives.
pub offer-sound : (edition : ℕ) (o : Offer) → offer_in_range edition o ≡ true → SoundOffer o
unfolding offer_in_range
offer-sound edition o e =
    let from1 = and_right (leb 1 o.resource) _ e in
    let from2 = and_right (leb 1 o.seller) _ from1 in
    let from3 = and_right (given_within 0 1000000 o.price) _ from2 in
    let from4 = and_right (within 1 200000 o.quantity) _ from3 in
    let price = and_left (given_within 0 1000000 o.price) _ from2 in
    let quantity = and_left (within 1 200000 o.quantity) _ from3 in
    let block = and_left (given_within 1 o.quantity o.block) _ from4 in
    let step = step_range (eqb edition 1) o.step (offer-step edition o e) in
    record {
      resource-from = leb-true 1 o.resource (and_left (leb 1 o.resource) _ e);
      seller-from = leb-true 1 o.seller (and_left (leb 1 o.seller) _ from1);
      price-to = λ number g. within-to 0 1000000 number (given-within 0 1000000 o.price number price g);
      quantity-from = within-from 1 200000 o.quantity quantity;
      quantity-to = within-to 1 200000 o.quantity quantity;
      block-from = λ number g. within-from 1 o.quantity number (given-within 1 o.quantity o.block number block g);
      block_to = λ number g. within-to 1 o.quantity number (given-within 1 o.quantity o.block number block g);
      step_from = step.0;
      step-to = step.1;
    }

pub offer-in-range : (prices_needed : Bool) (edition : ℕ) (o : Offer) (row : ℕ)
    → offer_fault prices_needed edition o row ≡ no_fault → offer_in_range edition o ≡ true
unfolding offer_fault
offer-in-range prices_needed edition o row e =
    unless-passed (offer_in_range edition o) (OfferOutOfRange row) (and_then-right (cond prices_needed (price_fault o.price row) no_fault) _ e)

price-given : (price : Value) (row : ℕ) → price_fault price row ≡ no_fault → price ≡ Given (held price)
price-given (Given number) row e = refl
price-given Missing row e = cc

-- An offer that clearing accepts is one of a sound book, and has a price.
pub offer-priced : (edition : ℕ) (o : Offer) (row : ℕ) → offer_fault true edition o row ≡ no_fault → PricedOffer o
unfolding offer_fault
offer-priced edition o row e =
    let sound = offer-sound edition o (offer-in-range true edition o row e) in
    let given = price-given o.price row (and_then-left (price_fault o.price row) _ e) in
    record { sound = sound; price-given = given; price-most = sound.price-to (held o.price) given }
