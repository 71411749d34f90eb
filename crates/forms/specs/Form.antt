-- What a form reads with its numbers in it.
--
-- Every mark of a number and every `[` takes the next number, shown or not. In a choice `turn` counts the parts that stand before
-- the one that is shown: 0 in that part, as outside of a choice, and all ones behind it, which no form counts down. A choice with
-- no number left shows none of its parts.
-- In order: what a byte leaves of each, and the text.
-- Assumes nothing.
use Rattle.std.specs.Prelude.{ℕ, ◌+◌, ◌-◌, cond, ◌||◌, List, [], ◌∷◌, ◌++◌, eqb, drop, get_or}
use Rattle.forms.specs.Mark.{is_number, byte_text}

-- how many parts stand before the one that is shown
unfoldable pub turn_after : ℕ → ℕ → List ℕ → ℕ
turn_after mark turn numbers =
    cond (eqb mark 91) (get_or numbers 0 18446744073709551615)
    (cond (eqb mark 93) 0 (cond (eqb mark 124) (cond (eqb turn 0) 18446744073709551615 (turn - 1)) turn))

-- how many `_` stand since the last mark of a number
unfoldable pub width_after : ℕ → ℕ → ℕ
width_after mark width = cond (eqb mark 95) (width + 1) (cond (is_number mark) 0 width)

-- how many numbers a byte takes
unfoldable pub taken : ℕ → ℕ
taken mark = cond (is_number mark || eqb mark 91) 1 0

-- the text of the bytes that are left of a form, with the numbers that are left
unfoldable pub filling : ℕ → ℕ → List ℕ → List ℕ → List ℕ
filling turn width numbers [] = []
filling turn width numbers (mark ∷ form) =
    cond (eqb turn 0) (byte_text width mark numbers) []
    ++ filling (turn_after mark turn numbers) (width_after mark width) (drop (taken mark) numbers) form

-- the text of a form
unfoldable pub form_text : List ℕ → List ℕ → List ℕ
form_text form numbers = filling 0 0 numbers form
