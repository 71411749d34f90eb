-- The first row that repeats a resource number, as the search finds it.
-- Assumes nothing.
use Rattle.std.specs.Prelude.{ℕ, zero, suc, Bool, cond}
use Rattle.laws.specs.Sum.{every}
use Rattle.repeats.specs.Repeats.{no_repeat}

-- the first of n places that fails a test, and n where none does
unfoldable pub first_failing : (ℕ → Bool) → ℕ → ℕ
first_failing test zero = zero
first_failing test (suc n) = cond (every test n) (cond (test n) (suc n) n) (first_failing test n)

-- the first of n rows with step 1 whose resource number stands in an earlier row, and n where there is none
unfoldable pub first_repeat : (ℕ → ℕ) → (ℕ → ℕ) → ℕ → ℕ
first_repeat resources steps n = first_failing (no_repeat resources steps) n
