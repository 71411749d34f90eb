-- When writing is refused.
-- Assumes nothing.
use Rattle.std.specs.Prelude.{ℕ, leb, length}
use Rattle.values.specs.Contents.{Contents}
use Rattle.values.specs.Refusals.{unless, and_then, wrong_layout, too_many_rows, short_room, Verdict}
use Rattle.layout.specs.Layout.{edition_known}
use Rattle.book.specs.Faults.{given_fault}
use Rattle.encoding.specs.Encode.{encode}

-- 3: no book has the edition
unfoldable pub edition_fault : Contents → Verdict
edition_fault c = unless (edition_known c.edition) (wrong_layout 0)

-- 19: there are more than 600 rows
unfoldable pub count_fault : Contents → Verdict
count_fault c = unless (leb (length c.offers) 600) too_many_rows

-- The first fault of contents that are to be written into room of so many bytes: 3 of the edition; 19; a sound book's
-- tests from 5 on; 20.
unfoldable pub write_fault : Contents → ℕ → Verdict
write_fault c room =
    and_then (edition_fault c)
    (and_then (count_fault c) (and_then (given_fault c) (unless (leb (length (encode c)) room) short_room)))
