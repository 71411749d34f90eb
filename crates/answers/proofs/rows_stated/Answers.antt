-- `rows_stated` reads the number of offers, where there is a block to read it from.
-- Assumes nothing.
use mathlib.Core.Path.{◌∙◌}
use Rattle.answers.proofs.Shows.{rows-stated, rows-unstated}
use Rattle.answers.proofs.rows_stated.Goals as goal

pub returns-then-book-lt-SIZE : goal.returns-then-book-lt-SIZE
returns-then-book-lt-SIZE c = rows-unstated _ c.if-book-lt-SIZE.true

pub returns-else-book-lt-SIZE : goal.returns-else-book-lt-SIZE
returns-else-book-lt-SIZE c = c.offer_count.ensures.0 ∙ rows-stated _ c.if-book-lt-SIZE.false
