-- Resource numbers that stand in no earlier row, and rows that repeat none.
-- Assumes nothing.
use Rattle.std.specs.Prelude.{ℕ, Bool, true, cond, not, eqb}
use Rattle.laws.specs.Sum.{every}

-- the row's resource number stands in no earlier row
abbrev pub fresh : (ℕ → ℕ) → ℕ → Bool
fresh resources row = every (λ earlier. not (eqb (resources earlier) (resources row))) row

-- the row repeats no resource number: only one with step 1 is tested, and against all earlier rows, whatever their steps
unfoldable pub no_repeat : (ℕ → ℕ) → (ℕ → ℕ) → ℕ → Bool
no_repeat resources steps row = cond (eqb (steps row) 1) (fresh resources row) true
