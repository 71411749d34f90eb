-- The numbers of the price levels around the one at which the total stops: a ladder of at most eleven rungs.
-- Assumes nothing.
use Rattle.std.specs.Prelude.{ℕ, List, [], ◌∷◌, ◌++◌, Some, None}
use Rattle.ladder.specs.declared.rung.Ladder.{Ladder}
use Rattle.rowlines.specs.Levels.{ladder_numbers, rung_numbers}
use Rattle.forms.specs.Parts.{parts_of}
use Rattle.workings.specs.Works.{worked}
use Rattle.headpage.specs.Facts.{ladder_in}
use Rattle.ladder.specs.Ladder.{RungAt}

-- the head, where there is a rung
abbrev pub head_over : ℕ → RungAt → List (List ℕ)
head_over lower (Some rung) = ladder_numbers lower ∷ []
head_over lower None = []

abbrev pub ladder_parts : Ladder → List (List ℕ)
ladder_parts l = head_over l.lower l.rung

-- rung k, where it is there
abbrev pub rung_part : ℕ → RungAt → List (List ℕ)
rung_part k (Some rung) = rung_numbers k rung ∷ []
rung_part k None = []

abbrev pub rung_parts : ℕ → Ladder → List (List ℕ)
rung_parts k l = rung_part k l.rung

-- the levels of a book
unfoldable pub levels_parts : List ℕ → List (List ℕ)
levels_parts b = ladder_parts (ladder_in (worked b 600 0 600)) ++ parts_of (λ k. rung_parts k (ladder_in (worked b 600 k 600))) 11
