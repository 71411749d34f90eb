-- The numbers of the price levels around the one at which the total stops.
-- Assumes nothing.
use Rattle.std.specs.Prelude.{ℕ, cond, ◌&&◌, List, [], ◌∷◌, eqb, ltb}
use Rattle.ladder.specs.declared.rung.Rung.{Rung}
use Rattle.wording.specs.Words.{as_one}

unfoldable pub ladder_numbers : ℕ → List ℕ
ladder_numbers lower = as_one (ltb 0 lower) ∷ lower ∷ []

unfoldable pub rung_numbers : ℕ → Rung → List ℕ
rung_numbers k rung =
    rung.price ∷ rung.offered ∷ rung.receives
    ∷ cond (eqb rung.receives 0) 2 (as_one (ltb rung.receives rung.offered))
    ∷ as_one (eqb k 10 && ltb 0 rung.higher) ∷ rung.higher
    ∷ []
