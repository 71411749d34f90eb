-- The numbers of the level that is divided, and of the contest for its spare tenths. Places are counted from 0 and shown from 1.
-- Assumes nothing.
use Rattle.std.specs.Prelude.{ℕ, ◌+◌, min, ◌&&◌, List, [], ◌∷◌, eqb, leb, ltb}
use Rattle.turns.specs.declared.order.Contender.{Contender}
use Rattle.wording.specs.Words.{as_one, first_true}
use Rattle.rowlines.specs.RowWords.{count_word}

unfoldable pub division_numbers : (edition price amount sum spares : ℕ) → List ℕ
division_numbers edition price amount sum spares =
    price
    ∷ amount
    ∷ sum
    ∷ amount
    ∷ sum
    ∷ count_word spares
    ∷ spares
    ∷ as_one (ltb 0 spares)
    ∷ as_one (ltb 0 spares && eqb edition 2)
    ∷ as_one (ltb 0 spares)
    ∷ []

unfoldable pub left_before_numbers : ℕ → List ℕ
left_before_numbers last = count_word last ∷ last ∷ []

-- whether it is the first that gets none, its place, what it contends with, and whether it gets none
unfoldable pub place_numbers : (edition k spares : ℕ) → Contender → List ℕ
place_numbers edition k spares c =
    as_one (eqb k spares)
    ∷ (min k 18446744073709551614 + 1)
    ∷ c.remainder
    ∷ c.stamp
    ∷ c.resource
    ∷ as_one (eqb edition 2)
    ∷ c.step
    ∷ as_one (leb spares k)
    ∷ []

-- five places are shown of those that get none
unfoldable pub left_behind_numbers : (spares contenders : ℕ) → List ℕ
left_behind_numbers spares contenders =
    first_true (leb contenders (spares + 5)) (eqb contenders (spares + 6)) ∷ contenders ∷ (spares + 6) ∷ contenders ∷ []
