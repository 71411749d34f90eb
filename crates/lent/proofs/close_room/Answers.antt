-- `close_room` makes the book around the rows where nothing is refused.
-- Assumes nothing.
use mathlib.Core.Path.{ap₂, ◌∙◌}
use Rattle.words.specs.Texts.{text_refused}
use Rattle.lent.proofs.Rooms.{closed-refused, closed-made}
use Rattle.lent.proofs.close_room.Goals as goal

pub returns-in-Err : goal.returns-in-Err
returns-in-Err c =
    closed-refused _ _ _ _ _ c.in-Err.is (c.refused.ensures ∙ ap₂ text_refused c.number.ensures c.place.ensures)

pub put_book-requires : goal.put_book-requires
put_book-requires c = (c.requires.1 c.in_default.is, c.requires.0)

pub returns : goal.returns
returns c =
    closed-made _ _ _ _ c.in_default.is c.parameters_in.ensures c.bytes_for.ensures.0
    c.given.ensures c.put_book.ensures
