-- What a page asks of the workings of a book.
-- Assumes nothing.
use Rattle.std.specs.Prelude.{None, Ok, Err}
use Rattle.ladder.specs.declared.rung.Ladder.{Ladder}
use Rattle.turns.specs.Order.{Placed}
use Rattle.workings.specs.Works.{WorksAnswer}

-- the ladder, and who holds the place: none where the book is not accepted
abbrev pub ladder_in : WorksAnswer → Ladder
ladder_in (Ok w) = w.ladder
ladder_in (Err refusal) = record { lower = 0; rung = None }

abbrev pub placed_in : WorksAnswer → Placed
placed_in (Ok w) = w.contest.placed
placed_in (Err refusal) = None
