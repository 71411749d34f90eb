-- A number's text before its thousands are separated.
-- In order: the text, how many of its letters are digits of the whole part that is separated, and the separating.
-- Assumes nothing.
use Rattle.std.specs.Prelude.{ℕ, ◌+◌, ◌-◌, cond, List, [], ◌∷◌, ◌++◌, eqb}
use Rattle.text.specs.Number.{number_text}
use Rattle.text.specs.inner.Number.{decimal_text}
use Rattle.forms.specs.Number.{comma}

-- the digits, with a point where there are places
unfoldable pub plain_text : ℕ → ℕ → List ℕ
plain_text places n = cond (eqb places 0) (number_text n) (decimal_text places n)

-- the letters in front of the point, none for `#`
unfoldable pub wholes : ℕ → ℕ → ℕ → ℕ
wholes mark places end = cond (eqb mark 35) 0 (cond (eqb places 0) end (end - (places + 1)))

-- letters, the first `whole` of which are digits whose thousands are separated
unfoldable pub separated : ℕ → List ℕ → List ℕ
separated whole [] = []
separated whole (letter ∷ rest) = letter ∷ (comma (whole - 1) ++ separated (whole - 1) rest)
