-- The numbers of a row's turn in the contest for the spare tenths of its level.
-- Assumes nothing.
use Rattle.std.specs.Prelude.{ℕ, ◌+◌, Bool, cond, List, [], ◌∷◌, eqb, ltb, Some, None}
use Rattle.std.specs.declared.option.Option.{Option}
use Rattle.turns.specs.declared.turn.Rival.{Rival}
use Rattle.turns.specs.Order.{number_of}
use Rattle.turns.specs.declared.turn.Turn.{Turn}
use Rattle.wording.specs.Words.{absent, first_true}
use Rattle.rowlines.specs.RowWords.{count_word}

-- the row at the other side of the cut, for one that gets a spare tenth or for one that gets none: whether it is named by its
-- resource or by its step too, both, and what decides
abbrev pub rival_numbers : ℕ → Bool → Option Rival → List ℕ
rival_numbers edition gets (Some rival) =
    cond (eqb edition 2) 2 1
    ∷ rival.contender.resource
    ∷ rival.contender.step
    ∷ rival.contender.resource
    ∷ cond gets (number_of rival.decided + 1) (number_of rival.decided + 5)
    ∷ []
rival_numbers edition gets None = 0 ∷ absent ∷ absent ∷ absent ∷ 0 ∷ []

-- how many tenths are spare, the row's place, counted from 1, and among how many, whether it gets one, and against whom
unfoldable pub turn_numbers : ℕ → Turn → List ℕ
turn_numbers edition t =
    count_word t.spares
    ∷ (t.place + 1)
    ∷ t.contenders
    ∷ (t.place + 1)
    ∷ t.contenders
    ∷ t.spares
    ∷ first_true (eqb t.spares 0) (ltb t.place t.spares)
    ∷ rival_numbers edition (ltb t.place t.spares) t.rival
