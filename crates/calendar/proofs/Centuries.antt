-- Of any four hundred delivery years in a row, 97 are long.
--
-- In order: a test of years that comes round counts as many in any stretch of that length; the rule of leap years comes round
-- after four hundred years; the count.
-- Assumes nothing.
use mathlib.Core.Path.{◌≡◌, refl, ap, ◌∙◌}
use mathlib.Core.Bool.{Bool, cond}
use Prim.Native.Nat.{ℕ, zero, suc, ◌+◌, ◌%◌}
use native.Mathlib.Nat.{add-zero}
use native.Mathlib.Omega.{arith}
use lib.Dec.{eqb}
use Rattle.laws.specs.Sum.{count_where, sum_where, sum_to}
use Rattle.laws.proofs.Counts.{count_where-zero, count_where-suc}
use Rattle.calendar.specs.Year.{leap, days_of}

-- ---- a test of years, counted over a stretch of them

module _ (test : ℕ → Bool) where
  -- how many of n years in a row pass, from a first on
  abbrev passing : ℕ → ℕ → ℕ
  passing from n = count_where (λ i. test (from + i)) n

  abbrev one : ℕ → ℕ
  one year = cond (test year) 1 0

  -- the first year, and the years from the next on
  passing-first : (from n : ℕ) → one from + passing (from + 1) n ≡ passing from (suc n)
  passing-first from zero =
      omega (
        arith,
        count_where-zero (λ i. test (from + 1 + i)),
        count_where-zero (λ i. test (from + i)),
        count_where-suc (λ i. test (from + i)) 0,
        ap one (add-zero from),
      )
  passing-first from (suc n) =
      let same : from + 1 + n ≡ from + suc n = omega arith in
      omega (
        arith,
        passing-first from n,
        count_where-suc (λ i. test (from + 1 + i)) n,
        count_where-suc (λ i. test (from + i)) (suc n),
        ap one same,
      )

  module _ (period : ℕ) (round : (year : ℕ) → test (year + period) ≡ test year) where
    -- a stretch of a whole period that begins a year later
    passing-next : (from : ℕ) → passing (from + 1) period ≡ passing from period
    passing-next from =
        omega (
          arith,
          passing-first from period,
          count_where-suc (λ i. test (from + i)) period,
          ap (λ (t : Bool). cond {A = ℕ} t 1 0) (round from),
        )

    -- as many pass in any whole period as in the first
    passing-same : (from : ℕ) → passing from period ≡ passing 0 period
    passing-same zero = refl
    passing-same (suc from) =
        let next : suc from ≡ from + 1 = omega arith in
        ap (λ (year : ℕ). passing year period) next ∙ passing-next from ∙ passing-same from

-- ---- the rule of leap years

leap-round : (year : ℕ) → leap (year + 400) ≡ leap year
unfolding leap
leap-round year =
    let fourth : (year + 400) % 4 ≡ year % 4 = omega arith in
    let century : (year + 400) % 100 ≡ year % 100 = omega arith in
    let round : (year + 400) % 400 ≡ year % 400 = omega arith in
    rw (fourth, century, round)

-- a delivery year of 366 days
abbrev pub long : ℕ → Bool
long year = eqb (days_of year) 366

long-round : (year : ℕ) → long (year + 400) ≡ long year
unfolding days_of
long-round year =
    let next : year + 400 + 1 ≡ year + 1 + 400 = omega arith in
    rw (next, leap-round (year + 1))

first-four-hundred : count_where (λ i. long (0 + i)) 400 ≡ 97
unfolding count_where sum_where sum_to leap days_of
first-four-hundred = refl

-- Of any four hundred delivery years in a row, from whichever on, 97 have 366 days.
pub four-hundred-years : (from : ℕ) → count_where (λ i. long (from + i)) 400 ≡ 97
four-hundred-years from = passing-same long 400 long-round from ∙ first-four-hundred
