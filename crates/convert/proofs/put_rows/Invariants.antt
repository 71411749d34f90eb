-- `put_rows` puts the rows of a book into their places of another. The loop's invariant: the rows passed stand there.
-- Assumes nothing.
use mathlib.Core.Path.{◌≡◌}
use Prim.Native.Nat.{◌-◌, ◌≤◌}
use lib.ListN.{length}
use Rattle.layout.specs.Read.{row_offers}
use Rattle.places.specs.inner.Rows.{put_rows}
use Rattle.convert.proofs.put_rows.Given as goal

abbrev pub invariant-loop-row : goal.invariant-loop-row
invariant-loop-row l = (l.row ≤ l.n) × (length l.room ≡ length l.initial.room) × (l.room ≡ put_rows l.initial.room l.other 0 (row_offers l.book l.edition 1 l.row))

abbrev pub decreases-loop-row : goal.decreases-loop-row
decreases-loop-row l = l.n - l.row
