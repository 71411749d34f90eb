-- `put_missing` puts the parameters, and then one row after another. The loop's invariant: the rows so far were put.
-- Assumes nothing.
use mathlib.Core.Path.{◌≡◌}
use mathlib.Core.List.{List}
use Prim.Native.Nat.{ℕ, ◌-◌, ◌≤◌}
use lib.ListN.{length}
use Rattle.forms.specs.Shown.{Shows}
use Rattle.forms.specs.Parts.{parts_of}
use Rattle.readout.specs.Facts.{row_in}
use Rattle.refusing.specs.Missing.{unpriced_row}
use Rattle.refusing.proofs.missing.put_missing.Given as goal

-- the parts of the rows
abbrev pub rows : List ℕ → ℕ → ℕ → List (List ℕ)
rows b edition row = unpriced_row edition row (row_in b row)

abbrev pub invariant-loop-row : goal.invariant-loop-row
invariant-loop-row l = (l.row ≤ l.row-end) × (length l.room ≡ length l.initial.room) × Shows l.initial.room l.initial.behind (parts_of (rows l.book l.edition) l.row) l.room l.behind

abbrev pub decreases-loop-row : goal.decreases-loop-row
decreases-loop-row l = l.row-end - l.row
