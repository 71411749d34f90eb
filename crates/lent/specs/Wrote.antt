-- What a call that writes a book answers and leaves in the room that it is lent, by the rules of the plain structs.
-- Assumes nothing.
use Rattle.std.specs.Prelude.{ℕ, ◌≡◌, List, ◌++◌, length, drop}
use Rattle.values.specs.Contents.{Contents}
use Rattle.values.specs.Refusals.{buffer_by}
use Rattle.encoding.specs.Encode.{encode}
use Rattle.writer.specs.Writing.{write_fault}
use Rattle.plain.specs.declared.structs.OzpText.{OzpText}
use Rattle.words.specs.Texts.{text_given, text_by}

-- The refusal, and the room as it was; or the count of the book's bytes, and in the room the book and behind it what stood there.
pub record Wrote (c : Contents) (room : List ℕ) (r : OzpText) (room' : List ℕ) : Type 0 where
  pub answered : r ≡ text_by (write_fault c (length room)) (text_given (length (encode c)))
  pub room-holds : room' ≡ buffer_by (write_fault c (length room)) room (encode c ++ drop (length (encode c)) room)
