-- What a call that converts a book answers and leaves in the room that it is lent, by the rules of the plain structs.
-- Assumes nothing.
use Rattle.std.specs.Prelude.{ℕ, ◌≡◌, List, ◌++◌, length, drop}
use Rattle.values.specs.Refusals.{buffer_by}
use Rattle.convert.specs.Convert.{converted, convert_fault}
use Rattle.plain.specs.declared.structs.OzpText.{OzpText}
use Rattle.words.specs.Texts.{text_given, text_by}

-- The refusal, and the room as it was; or the count of the converted book's bytes, and in the room that book and behind it what
-- stood there.
pub record Converted (b room : List ℕ) (r : OzpText) (room' : List ℕ) : Type 0 where
  pub answered : r ≡ text_by (convert_fault b (length room)) (text_given (length (converted b)))
  pub room-holds : room' ≡ buffer_by (convert_fault b (length room)) room (converted b ++ drop (length (converted b)) room)
