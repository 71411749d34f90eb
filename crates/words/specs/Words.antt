-- The refusals in words: when each is given, a semicolon, and what its place is.
-- Assumes nothing.
use Rattle.std.specs.Prelude.{ℕ, cond, List, eqb}
use Prim.Native.Char.{code}
use Prim.Native.String.{String, [], ◌∷◌}
use mathlib.Core.List as list

-- the bytes of a text of plain letters
unfoldable pub bytes_of : String → List ℕ
bytes_of [] = list.[]
bytes_of (letter ∷ letters) = list.◌∷◌ (code letter) (bytes_of letters)

-- the words of a refusal's number; a number that no refusal has, has none
unfoldable pub words_of : ℕ → String
words_of number =
    cond (eqb number 1) "length not a multiple of 512, or under 512, or over 20,992; 0"
    (cond (eqb number 2) "a block's check is wrong; the block"
    (cond (eqb number 3) "letters, edition, block number, counts, unused marks or bytes differ from the layout, or a value marked absent is not zero; the block"
    (cond (eqb number 4) "a parameter is missing; the field"
    (cond (eqb number 5) "a parameter is out of range; the field"
    (cond (eqb number 6) "an offer has no price; the row"
    (cond (eqb number 7) "an offer value is out of range; the row"
    (cond (eqb number 8) "a resource number stands in an earlier row; the row"
    (cond (eqb number 9) "a result buffer has fewer entries than offers; 1 cleared, 2 committed"
    (cond (eqb number 10) "a resource's steps do not stand in neighbouring rows counted up from 1, their prices fall, or a step past 1 has a minimum block; the row"
    (cond (eqb number 11) "a row has a step of 2 or more, which edition 1 cannot hold; the row"
    (cond (eqb number 19) "more than 600 rows; 0"
    (cond (eqb number 20) "the room lent is too small; 0"
    ""))))))))))))
