-- `put_rows` puts the line of one row after another. The loop's invariant: the lines of the rows so far were put.
-- Assumes nothing.
use mathlib.Core.Path.{◌≡◌}
use Prim.Native.Nat.{◌+◌, ◌-◌, ◌*◌, ◌≤◌}
use lib.ListN.{length}
use Rattle.settle.specs.inner.Read.{quoted}
use Rattle.report.specs.Lines.{rows_text, Fitted}
use Rattle.report.specs.inner.Report.{sold_line}
use Rattle.report.proofs.put_rows.Given as goal

abbrev pub invariant-loop-row : goal.invariant-loop-row
invariant-loop-row l =
    (l.row ≤ l.n)
    × (length l.out ≡ length l.initial.out)
    × Fitted l.initial.out l.at (rows_text (sold_line l.book (quoted l.price) l.cleared l.committed) l.row) l.out l.behind
    × (l.behind ≤ l.at + 54 * l.row)

abbrev pub decreases-loop-row : goal.decreases-loop-row
decreases-loop-row l = l.n - l.row
