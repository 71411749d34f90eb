-- What a book misses: parameters, the price of a row.
-- Assumes nothing.
use Rattle.std.specs.Prelude.{ℕ, not, cond, List, [], ◌∷◌, eqb}
use Rattle.values.specs.declared.head.Parameters.{Parameters}
use Rattle.limits.specs.Parameters.{by_margin}
use Rattle.wording.specs.Words.{as_one, given}

-- 1 where a parameter is missing, the margin only in a year whose curve goes by it
unfoldable pub missing_parameters_numbers : Parameters → List ℕ
missing_parameters_numbers p =
    as_one (not (given p.cost))
    ∷ as_one (not (given p.offset))
    ∷ as_one (not (given p.outage))
    ∷ as_one (not (given p.requirement))
    ∷ cond (given p.margin) 0 (as_one (by_margin p.year))
    ∷ []

unfoldable pub missing_price_numbers : ℕ → ℕ → ℕ → ℕ → List ℕ
missing_price_numbers edition row resource step = row ∷ resource ∷ as_one (eqb edition 2) ∷ step ∷ []
