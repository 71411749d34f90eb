-- What is done with the room before rows are put into it, and once they stand there.
-- Assumes nothing.
use Rattle.std.specs.Prelude.{ℕ, ◌≡◌, List, leb, length}
use Rattle.values.specs.Refusals.{unless, and_then, short_room, buffer_by, Verdict}
use Rattle.values.specs.declared.head.Parameters.{Parameters}
use Rattle.encoding.specs.Numbers.{zeros}
use Rattle.places.specs.inner.Put.{put}
use Rattle.making.specs.inner.Made.{bytes_for, book_made}
use Rattle.plain.specs.declared.structs.OzpText.{OzpText}
use Rattle.words.specs.Texts.{text_given, text_by}
use Rattle.lent.specs.inner.Drafts.{draft_by}
use Rattle.lent.specs.declared.tested.Draft.{Draft}

-- what was found, and then 20
unfoldable pub open_fault : Draft → ℕ → Verdict
open_fault d room = and_then d.fault (unless (leb (bytes_for d.rows) room) short_room)

-- the fault, with the rows that are to be put; and the room, with its first block cleared, or as it was
pub record Opened (d : Draft) (room : List ℕ) (r : Draft) (room' : List ℕ) : Type 0 where
  pub answered : r ≡ draft_by (open_fault d (length room)) d.rows d.before
  pub room-holds : room' ≡ buffer_by (open_fault d (length room)) room (put room 0 (zeros 512))

-- the refusal, and the room as it was; or the count of the book's bytes, and in the room the book made around its rows
pub record Closed (edition : ℕ) (p : Parameters) (d : Draft) (room : List ℕ) (r : OzpText) (room' : List ℕ) : Type 0 where
  pub answered : r ≡ text_by d.fault (text_given (bytes_for d.rows))
  pub room-holds : room' ≡ buffer_by d.fault room (book_made edition p d.rows room)
