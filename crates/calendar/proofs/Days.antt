-- How many days a delivery year has.
--
-- In order: 366 where the year after the one it starts in is a leap year, 365 elsewhere; one or the other; 366 only there; two
-- years by name.
-- Assumes nothing.
use mathlib.Core.Path.{◌≡◌, refl}
use mathlib.Core.Bool.{true, false}
use mathlib.Core.Logic.{◌⊎◌, inl, inr}
use Prim.Native.Nat.{ℕ, ◌+◌}
use native.Mathlib.Omega.{arith}
use Rattle.laws.proofs.Cases.{by-test, cond-true, cond-false}
use Rattle.calendar.specs.Year.{leap, days_of}

-- A delivery year that starts in the year before a leap year has 366 days.
pub days-long : (year : ℕ) → leap (year + 1) ≡ true → days_of year ≡ 366
unfolding days_of
days-long year = cond-true (leap (year + 1)) 366 365

-- Any other has 365.
pub days-short : (year : ℕ) → leap (year + 1) ≡ false → days_of year ≡ 365
unfolding days_of
days-short year = cond-false (leap (year + 1)) 366 365

-- A delivery year has 365 days or 366.
pub days-either : (year : ℕ) → (days_of year ≡ 365) ⊎ (days_of year ≡ 366)
days-either year = by-test (leap (year + 1)) (λ t. inr (days-long year t)) (λ f. inl (days-short year f))

-- Only one that starts in the year before a leap year has 366.
pub days-leap : (year : ℕ) → days_of year ≡ 366 → leap (year + 1) ≡ true
days-leap year e = by-test (leap (year + 1)) (λ t. t) (λ f. absurd (omega (arith, e, days-short year f)))

-- 2028 is a leap year, and 2100 is none.
pub days-2027 : days_of 2027 ≡ 366
unfolding days_of leap
days-2027 = refl

pub days-2099 : days_of 2099 ≡ 365
unfolding days_of leap
days-2099 = refl
