-- The starred cases of the outline, in its order, each computed from the definitions; at the end two halves.
--
-- Offers are written as in the outline, a quantity at a price. Their outcome is the total, the price or none, and what
-- each row clears. A total under the curve's last point is told by that the offers can supply it and not one tenth more.
-- Assumes nothing.
use mathlib.Core.Path.{◌≡◌, refl}
use Prim.Native.Nat.{ℕ}
use mathlib.Core.List.{[], ◌∷◌}
use mathlib.Core.Option.{none, some}
use Rattle.std.specs.Prelude.{Some}
use Rattle.values.specs.declared.Value.TheVariants.{Given}
use Rattle.reference.proofs.Found.{outcome_at, outcome-found}
use Rattle.reference.specs.Book.{curve_in, curve_by, prices, quantities, reference, reference2025, example_price, ◌at◌, outcome}

-- P1 50,000, P2 18,750; Q1 9,900, Q2 10,150, Q3 10,450
pub reference-prices : prices reference ≡ (50000, 18750)
reference-prices = unfold curve_in in refl

pub reference-quantities : quantities reference ≡ (9900, 10150, 10450)
reference-quantities = unfold curve_in in refl

-- curve at 9,900: 50,000; at 10,000: 37,500; at 10,151: 18,687; at 10,450: 0
pub at-first-point : example_price 9900 ≡ Some (record { 0 = 50000 })
at-first-point = unfold example_price in refl

pub at-requirement : example_price 10000 ≡ Some (record { 0 = 37500 })
at-requirement = unfold example_price in refl

pub past-second-point : example_price 10151 ≡ Some (record { 0 = 18687 })
past-second-point = unfold example_price in refl

pub at-last-point : example_price 10450 ≡ Some (record { 0 = 0 })
at-last-point = unfold example_price in refl

-- E 0: P1 87,500, P2 37,500; E 146,000: P1 50,000, P2 0
pub offset-none : prices (curve_by 146000 0 2000 10000) ≡ (87500, 37500)
offset-none = unfold curve_in in refl

pub offset-whole : prices (curve_by 146000 146000 2000 10000) ≡ (50000, 0)
offset-whole = unfold curve_in in refl

-- the same parameters in 2025: with any margin P1 is 50,000, by the gross cost, and P2 18,750; with E 0 P1 is 75,000
pub reference-2025-prices : (margin : ℕ) → prices (reference2025 margin) ≡ (50000, 18750)
reference-2025-prices margin = unfold curve_in in refl

pub offset-none-2025 : prices (curve_in 2025 146000 0 2000 10000 (Given 1500)) ≡ (75000, 37500)
offset-none-2025 = unfold curve_in in refl

-- margin 0: Q1 9,880, Q2 10,190, Q3 10,780; 1,500: 9,896, 10,165, 10,678; 5,000: 9,920, 10,127, 10,520
pub margin-none-2025 : quantities (reference2025 0) ≡ (9880, 10190, 10780)
margin-none-2025 = unfold curve_in in refl

pub margin-1500-2025 : quantities (reference2025 1500) ≡ (9896, 10165, 10678)
margin-1500-2025 = unfold curve_in in refl

pub margin-5000-2025 : quantities (reference2025 5000) ≡ (9920, 10127, 10520)
margin-5000-2025 = unfold curve_in in refl

-- no offers: X 0, no price
pub no-offers : outcome [] ≡ (0, none, [])
no-offers = unfold outcome_at in outcome-found [] 0 refl refl refl

-- 9,000 at 0: all clears, price 50,000; 11,000 at 0: X 10,450, price 0, a real zero
pub all-clears : outcome (9000 at 0 ∷ []) ≡ (9000, some 50000, 9000 ∷ [])
all-clears = unfold outcome_at in outcome-found (9000 at 0 ∷ []) 9000 refl refl refl

pub real-zero : outcome (11000 at 0 ∷ []) ≡ (10450, some 0, 10450 ∷ [])
real-zero = unfold outcome in refl

-- 100 at 50,000 clears; at 50,001 nothing clears, no price
pub at-top-clears : outcome (100 at 50000 ∷ []) ≡ (100, some 50000, 100 ∷ [])
at-top-clears = unfold outcome_at in outcome-found (100 at 50000 ∷ []) 100 refl refl refl

pub over-top-clears-nothing : outcome (100 at 50001 ∷ []) ≡ (0, none, 0 ∷ [])
over-top-clears-nothing = unfold outcome_at in outcome-found (100 at 50001 ∷ []) 0 refl refl refl

-- 10,000 at 10,000 and 500 at 40,000: X 10,000, price 37,500; with the second at 37,450: same X, price 37,450
pub curve-sets-price : outcome (10000 at 10000 ∷ 500 at 40000 ∷ []) ≡ (10000, some 37500, 10000 ∷ 0 ∷ [])
curve-sets-price = unfold outcome_at in outcome-found (10000 at 10000 ∷ 500 at 40000 ∷ []) 10000 refl refl refl

pub uncleared-sets-price : outcome (10000 at 10000 ∷ 500 at 37450 ∷ []) ≡ (10000, some 37450, 10000 ∷ 0 ∷ [])
uncleared-sets-price = unfold outcome_at in outcome-found (10000 at 10000 ∷ 500 at 37450 ∷ []) 10000 refl refl refl

-- not starred: C 146, E 0, F 2,000 come to 87.5 and 37.5 cents, and R 1,050 to 1,039.5 tenths at 99 percent
pub half-cent-upward : prices (curve_by 146 0 2000 10000) ≡ (88, 38)
half-cent-upward = unfold curve_in in refl

pub half-tenth-upward : quantities (curve_by 146000 73000 2000 1050) ≡ (1040, 1066, 1097)
half-tenth-upward = unfold curve_in in refl
