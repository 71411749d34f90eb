-- The marks of a form.
--
-- `#` shows a number plainly, `@` with its thousands separated, `~`, `$` and `&` so with one, two and three digits behind a
-- point; `_` widens the next of them; `[a|b|c]` shows the part that its number picks, the first for 0.
-- In order: the marks of numbers, those that show nothing themselves, how a mark shows a number, and what a byte of a form shows.
-- Assumes nothing.
use Rattle.std.specs.Prelude.{ℕ, ◌+◌, Bool, cond, ◌||◌, List, [], ◌∷◌, eqb}
use Rattle.text.specs.Put.{right_text}
use Rattle.text.specs.Number.{number_text}
use Rattle.forms.specs.Number.{grouped_text}

-- `#`, `@`, `~`, `$` or `&`
unfoldable pub is_number : ℕ → Bool
is_number mark = eqb mark 35 || eqb mark 64 || eqb mark 126 || eqb mark 36 || eqb mark 38

-- `_`, `[`, `|` or `]`
unfoldable pub is_silent : ℕ → Bool
is_silent mark = eqb mark 95 || eqb mark 91 || eqb mark 124 || eqb mark 93

-- how many digits stand behind the point
unfoldable pub places : ℕ → ℕ
places mark = cond (eqb mark 126) 1 (cond (eqb mark 36) 2 (cond (eqb mark 38) 3 0))

-- a number as a mark shows it
unfoldable pub mark_text : ℕ → ℕ → List ℕ
mark_text mark n = cond (eqb mark 35) (number_text n) (grouped_text (places mark) n)

-- the next number, and a question mark where none is left
unfoldable pub next_text : ℕ → List ℕ → List ℕ
next_text mark [] = 63 ∷ []
next_text mark (n ∷ numbers) = mark_text mark n

-- what a byte of a form shows: a number in a field of `width` + 1 letters, or the byte itself where it is no mark
unfoldable pub byte_text : ℕ → ℕ → List ℕ → List ℕ
byte_text width mark numbers =
    cond (is_silent mark) [] (cond (is_number mark) (right_text (width + 1) 32 (next_text mark numbers)) (mark ∷ []))
