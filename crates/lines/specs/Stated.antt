-- What a book states: its edition and parameters, and how many offers it has.
-- Assumes nothing.
use Rattle.std.specs.Prelude.{ℕ, List, [], ◌∷◌, eqb}
use Rattle.values.specs.Values.{held}
use Rattle.values.specs.declared.head.Parameters.{Parameters}
use Rattle.limits.specs.Parameters.{by_margin}
use Rattle.wording.specs.Words.{as_one, yearly, valued, margined}

unfoldable pub stated_numbers : ℕ → Parameters → ℕ → List ℕ
stated_numbers edition p offers =
    as_one (eqb edition 2)
    ∷ p.year
    ∷ yearly p.cost
    ∷ held p.cost
    ∷ yearly p.offset
    ∷ held p.offset
    ∷ valued p.outage
    ∷ held p.outage
    ∷ valued p.requirement
    ∷ held p.requirement
    ∷ margined (by_margin p.year) p.margin
    ∷ held p.margin
    ∷ offers
    ∷ []
