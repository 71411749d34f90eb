-- When converting a book is refused before the room is looked at, and the other book as it is made.
-- Assumes nothing.
use Rattle.std.specs.Prelude.{ℕ, List, length}
use Rattle.values.specs.Contents.{Contents}
use Rattle.values.specs.Refusals.{and_then, Verdict}
use Rattle.layout.specs.Read.{contents_of}
use Rattle.book.specs.Faults.{sound_fault}
use Rattle.places.specs.inner.Rows.{put_rows}
use Rattle.making.specs.inner.Made.{book_made}
use Rattle.convert.specs.Convert.{other_edition, down_fault}

-- the book's own fault where it is not sound, and then 11
unfoldable pub own_fault : List ℕ → Verdict
own_fault b = and_then (sound_fault b) (down_fault (contents_of b))

-- the rows in their places of the other edition, and the book made around them
unfoldable pub other_made : Contents → List ℕ → List ℕ
other_made c room =
    let edition = other_edition c.edition in
    book_made edition c.parameters (length c.offers) (put_rows room edition 0 c.offers)
