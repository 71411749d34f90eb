-- The length of a delivery year, which runs from 1 June of a calendar year to 31 May of the next.
-- Assumes nothing.
use Rattle.std.specs.Prelude.{ℕ, ◌+◌, ◌%◌, Bool, cond, not, ◌&&◌, ◌||◌, eqb}

-- a calendar year with a 29 February, by the Gregorian rule: one in four, of the full centuries only one in four
unfoldable pub leap : ℕ → Bool
leap year = eqb (year % 4) 0 && (not (eqb (year % 100) 0) || eqb (year % 400) 0)

-- the days of the delivery year that starts on 1 June of `year`: its February stands in the year after
unfoldable pub days_of : ℕ → ℕ
days_of year = cond (leap (year + 1)) 366 365
