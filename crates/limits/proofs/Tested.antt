-- An offer's fault by the tests that the code makes of it, one of the price and one of the ranges; the row that a row's refusal
-- names; a row with step 1, and one past it.
-- Assumes nothing.
use mathlib.Core.Path.{◌≡◌, refl, ap}
use mathlib.Core.Bool.{Bool, true, false, cond, not, ◌&&◌, ◌||◌}
use Prim.Native.Nat.{ℕ}
use Rattle.std.specs.Prelude.{Err, Ok}
use Rattle.values.specs.Refusals.{place_of, no_price, offer_out_of_range, broken_steps, unless, and_then, Verdict, no_fault}
use Rattle.values.specs.declared.Value.{Value}
use Rattle.values.specs.declared.Value.TheVariants.{Given, Missing}
use Rattle.values.specs.declared.place.Offer.{Offer}
use Rattle.limits.specs.Offers.{price_fault, offer_in_range, offer_fault, step_fault}
use Rattle.limits.specs.inner.Offers.{is_given}
use Rattle.limits.specs.inner.Rows.{row_fault, past_fault}
use Rattle.steps.specs.Steps.{step_follows, step_holds}
use Rattle.steps.proofs.Following.{step-first, step-past-holds}
use Rattle.values.specs.declared.refusal.Refusal.{Refusal}
use Rattle.values.specs.declared.refusal.Refusal.TheVariants.{NoPrice, OfferOutOfRange, BrokenSteps}

price_fault-tested : (prices_needed : Bool) (price : Value) (row : ℕ)
    → cond prices_needed (price_fault price row) no_fault ≡ unless (is_given price || not prices_needed) (no_price row)
price_fault-tested true (Given number) row = refl
price_fault-tested true Missing row = refl
price_fault-tested false (Given number) row = refl
price_fault-tested false Missing row = refl

-- An offer is refused by one test of its price and one of its ranges.
pub offer_fault-tested : (prices_needed : Bool) (edition : ℕ) (o : Offer) (row : ℕ)
    → offer_fault prices_needed edition o row
    ≡ and_then (unless (is_given o.price || not prices_needed) (no_price row)) (unless (offer_in_range edition o) (offer_out_of_range row))
unfolding offer_fault
offer_fault-tested prices_needed edition o row = rw price_fault-tested

-- a price that is asked for and missing fails the test of it
asked : (prices_needed given : Bool) → given || not prices_needed ≡ not (prices_needed && not given)
asked true true = refl
asked true false = refl
asked false true = refl
asked false false = refl

-- what each way out of the code says, by what its tests answered
module _ (prices_needed : Bool) (edition : ℕ) (o : Offer) (row : ℕ) (given ranged : Bool)
    (g : given ≡ is_given o.price) (r : ranged ≡ offer_in_range edition o) where
  pub offer_fault-unpriced : prices_needed && not given ≡ true → no_price row ≡ offer_fault prices_needed edition o row
  offer_fault-unpriced p = rw (offer_fault-tested, ← g, asked prices_needed given, p)

  pub offer_fault-outside : prices_needed && not given ≡ false
      → ranged ≡ false → offer_out_of_range row ≡ offer_fault prices_needed edition o row
  offer_fault-outside p q = rw (offer_fault-tested, ← g, asked prices_needed given, p, ← r, q)

  pub offer_fault-passed : prices_needed && not given ≡ false
      → ranged ≡ true → no_fault ≡ offer_fault prices_needed edition o row
  offer_fault-passed p q = rw (offer_fault-tested, ← g, asked prices_needed given, p, ← r, q)

tested-row : (s t u : Bool) (row : ℕ) (refusal : Refusal)
    → and_then (and_then (unless s (no_price row)) (unless t (offer_out_of_range row))) (unless u (broken_steps row)) ≡ Err refusal
    → place_of refusal ≡ row
tested-row true true true row refusal e = cc
tested-row true true false row refusal e = let same : refusal ≡ BrokenSteps row = cc in ap place_of same
tested-row true false u row refusal e = let same : refusal ≡ OfferOutOfRange row = cc in ap place_of same
tested-row false t u row refusal e = let same : refusal ≡ NoPrice row = cc in ap place_of same

-- a fault with nothing behind it
pub fault-alone : (v : Verdict) → and_then v no_fault ≡ v
fault-alone (Ok u) = refl
fault-alone (Err refusal) = refl

module _ (prices_needed : Bool) (edition : ℕ) where
  -- A refusal of a row names that row.
  pub row_fault-row : (before o : Offer) (row : ℕ) (refusal : Refusal)
      → row_fault prices_needed edition before o row ≡ Err refusal → place_of refusal ≡ row
  unfolding row_fault step_fault
  row_fault-row before o row refusal e =
      tested-row (is_given o.price || not prices_needed) (offer_in_range edition o) (step_holds before o row) row refusal
      (rw (offer_fault-tested prices_needed edition o row) at e)

  -- A row with step 1 is refused by 6 and 7 alone.
  pub row_fault-first : (before o : Offer) (row : ℕ) → o.step ≡ 1
      → row_fault prices_needed edition before o row ≡ offer_fault prices_needed edition o row
  unfolding row_fault step_fault
  row_fault-first before o row one = rw (step-first before o row one) (fault-alone (offer_fault prices_needed edition o row))

  -- Past step 1 it is told by whether it follows the row before, for which row 0 may stand itself.
  pub row_fault-past : (before o : Offer) (row : ℕ) → (o.step ≡ 1 → ⊥) → (row ≡ 0 → before ≡ o)
      → row_fault prices_needed edition before o row ≡ past_fault prices_needed edition o (step_follows before o) row
  unfolding row_fault step_fault past_fault
  row_fault-past before o row past own = rw (step-past-holds before o row past own)
