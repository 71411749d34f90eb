-- The numbers of the level that is divided, and of the contest for its spare tenths around the place where they end.
-- Assumes nothing.
use Rattle.std.specs.Prelude.{ℕ, ◌+◌, ◌-◌, min, cond, ◌||◌, List, [], ◌∷◌, ◌++◌, eqb, Some, None}
use Rattle.levels.specs.declared.level.Level.{Level}
use Rattle.rowlines.specs.Division.{division_numbers, left_before_numbers, left_behind_numbers, place_numbers}
use Rattle.forms.specs.Parts.{parts_of}
use Rattle.workings.specs.Works.{worked}
use Rattle.headpage.specs.Facts.{placed_in}
use Rattle.turns.specs.Order.{Placed}

-- who holds place k of a contest, where someone does
abbrev pub place_parts : (edition spares k : ℕ) → Placed → List (List ℕ)
place_parts edition spares k (Some c) = place_numbers edition k spares c ∷ []
place_parts edition spares k None = []

-- five places before the one where the spare tenths end, or as many as there are, and five from it on
unfoldable pub places_parts : List ℕ → (edition spares : ℕ) → List (List ℕ)
places_parts b edition spares =
    parts_of (λ j. let k = (spares - 5) + j in place_parts edition spares k (placed_in (worked b 600 600 k))) (min spares 5 + 5)

-- the contest, with how many places are left out before and behind
unfoldable pub contest_parts : List ℕ → (edition spares contenders : ℕ) → List (List ℕ)
contest_parts b edition spares contenders =
    left_before_numbers (spares - 5) ∷ (places_parts b edition spares ++ (left_behind_numbers spares contenders ∷ []))

-- a level that receives something and not all of what is offered at it
unfoldable pub divided_parts : List ℕ → ℕ → Level → (spares contenders : ℕ) → List (List ℕ)
divided_parts b edition level spares contenders =
    cond (eqb level.amount 0 || eqb level.amount level.sum) []
    (division_numbers edition level.price level.amount level.sum spares
    ∷ cond (eqb spares 0) [] (contest_parts b edition spares contenders))
