-- `put_few` puts one row after another. The loop's invariant: the parts of the rows so far were put.
-- Assumes nothing.
use mathlib.Core.Path.{◌≡◌}
use mathlib.Core.List.{◌++◌}
use Prim.Native.Nat.{◌-◌, ◌≤◌}
use lib.ListN.{length}
use Rattle.forms.specs.Shown.{Shows}
use Rattle.forms.specs.Parts.{parts_of}
use Rattle.readout.specs.Facts.{row_in}
use Rattle.workings.specs.Works.{worked}
use Rattle.rowpages.specs.Row.{row_parts}
use Rattle.rowpages.specs.Together.{together_parts}
use Rattle.rowpages.proofs.few.put_few.Given as goal

abbrev pub invariant-loop-row : goal.invariant-loop-row
invariant-loop-row l =
    (l.row ≤ l.n)
    × (length l.room ≡ length l.initial.room)
    × Shows l.initial.room l.at (parts_of (λ r. row_parts l.edition r (row_in l.book r) (worked l.book r 600 600) ++ together_parts l.book r (row_in l.book r)) l.row) l.room l.behind

abbrev pub decreases-loop-row : goal.decreases-loop-row
decreases-loop-row l = l.n - l.row
