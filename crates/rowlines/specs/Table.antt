-- The numbers of the rows of a book as a table.
-- Assumes nothing.
use Rattle.std.specs.Prelude.{ℕ, ◌*◌, ◌||◌, List, [], ◌∷◌, eqb, leb, ltb}
use Rattle.values.specs.Values.{held}
use Rattle.values.specs.declared.place.Offer.{Offer}
use Rattle.wording.specs.Words.{as_one}
use Rattle.rowlines.specs.RowWords.{line_word}

unfoldable pub table_head_numbers : List ℕ
table_head_numbers = []

-- the level at which the total stops receives `amount` of `sum`; what a row clears past its exact part of that is a spare tenth
unfoldable pub line_numbers : ℕ → Offer → (cleared committed mills amount sum : ℕ) → List ℕ
line_numbers row o cleared committed mills amount sum =
    row
    ∷ as_one (ltb 1 o.step) ∷ o.resource ∷ o.step
    ∷ o.seller
    ∷ as_one (leb 100000000 o.resource || leb 1000000 o.seller)
    ∷ held o.price
    ∷ o.quantity
    ∷ cleared
    ∷ committed
    ∷ mills
    ∷ line_word (eqb cleared 0) (ltb cleared committed) (eqb cleared o.quantity) (ltb (o.quantity * amount) (cleared * sum))
    ∷ []
