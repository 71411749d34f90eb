-- Texts in room that a caller lends, by the rules of the plain structs.
--
-- In order: what is answered of a text; whether the room is too small; what a call answers and leaves in the room.
-- Assumes nothing.
use Rattle.std.specs.Prelude.{ℕ, ◌≡◌, List, [], ◌∷◌, ◌++◌, leb, length, drop, Err, Ok}
use Rattle.values.specs.Refusals.{unless, short_room, buffer_by, number_of, place_of, Verdict}
use Rattle.plain.specs.Structs.{no_value, no_amount}
use Rattle.plain.specs.declared.structs.OzpText.{OzpText}

-- a text of so many bytes, no text, and a refusal
abbrev pub text_given : ℕ → OzpText
text_given bytes = record { bytes = bytes; kind = 1; number = no_value; place = no_value }

abbrev pub no_text : OzpText
no_text = record { bytes = 0; kind = 2; number = no_value; place = no_value }

abbrev pub text_refused : ℕ → ℕ → OzpText
text_refused number place = record { bytes = no_amount; kind = 3; number = number; place = place }

-- where there are no bytes there is no text
abbrev pub text_of : List ℕ → OzpText
text_of [] = no_text
text_of (byte ∷ bytes) = text_given (length (byte ∷ bytes))

abbrev pub text_by : Verdict → OzpText → OzpText
text_by (Ok u) text = text
text_by (Err refusal) text = text_refused (number_of refusal) (place_of refusal)

-- 20: the room is too small for the text
abbrev pub room_fault : List ℕ → List ℕ → Verdict
room_fault text room = unless (leb (length text) (length room)) short_room

-- What a call answers of a text and leaves in the room: the text and behind it what stood there, or, where it does not fit, the
-- room as it was.
pub record Told (text room : List ℕ) (r : OzpText) (room' : List ℕ) : Type 0 where
  pub answered : r ≡ text_by (room_fault text room) (text_of text)
  pub room-holds : room' ≡ buffer_by (room_fault text room) room (text ++ drop (length text) room)
