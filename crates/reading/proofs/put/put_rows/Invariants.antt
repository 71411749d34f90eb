-- `put_rows` puts the rows into the columns, and tells whether each holds by what no column tells. The loop's invariant: so it is of
-- the rows passed.
-- Assumes nothing.
use Prim.Native.Nat.{◌≤◌}
use Rattle.layout.specs.Read.{row_offers}
use Rattle.columns.specs.inner.Columns.{columns_of}
use Rattle.reading.specs.inner.Lanes.{RowsPut}
use Rattle.reading.proofs.put.put_rows.Given as goal

abbrev pub invariant-loop-row : goal.invariant-loop-row
invariant-loop-row l =
    (l.row ≤ l.n)
    × RowsPut (row_offers l.book l.edition l.first l.n) l.row l.told
    (columns_of l.initial.prices l.initial.quantities l.initial.leasts l.initial.resources l.initial.stamps l.initial.steps)
    (columns_of l.prices l.quantities l.leasts l.resources l.stamps l.steps)
