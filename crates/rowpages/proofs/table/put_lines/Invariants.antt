-- `put_lines` puts the line of one row after another. The loop's invariant: the lines of the rows so far were put.
-- Assumes nothing.
use mathlib.Core.Path.{◌≡◌}
use Prim.Native.Nat.{◌-◌, ◌≤◌}
use lib.ListN.{length}
use Rattle.settle.specs.inner.Read.{quoted}
use Rattle.forms.specs.Shown.{Shows}
use Rattle.forms.specs.Parts.{parts_of}
use Rattle.rowpages.specs.inner.Table.{line_by}
use Rattle.rowpages.proofs.table.put_lines.Given as goal

abbrev pub invariant-loop-row : goal.invariant-loop-row
invariant-loop-row l =
    (l.row ≤ l.n)
    × (length l.room ≡ length l.initial.room)
    × Shows l.initial.room l.at (parts_of (line_by l.book (quoted l.price) l.cleared l.committed l.amount l.sum) l.row) l.room l.behind

abbrev pub decreases-loop-row : goal.decreases-loop-row
decreases-loop-row l = l.n - l.row
