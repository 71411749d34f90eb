-- `next_row` passes over the rows above the price. The loop's invariant: no row passed was at or below it.
-- Assumes nothing.
use Rattle.layout.specs.Form.{edition_of}
use Rattle.layout.specs.Read.{row_offers}
use Rattle.compare.proofs.Walks.{Passed}
use Rattle.compare.proofs.walk.next_row.Given as goal

abbrev pub invariant-loop-row : goal.invariant-loop-row
invariant-loop-row l = Passed l.price (row_offers l.book (edition_of l.book) 1 l.n) l.from l.row
