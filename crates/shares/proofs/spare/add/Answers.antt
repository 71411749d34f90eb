-- `shares::spare::add` adds the tenths row by row. The loop's invariant: the rows passed hold both.
-- Assumes nothing.
use mathlib.Core.Path.{◌≡◌}
use native.Mathlib.Nat.{le_refl}
use native.Mathlib.Omega.{arith}
use lib.ListN.{get_or}
use Rattle.laws.proofs.Fills.{filled_none, filled_more}
use Rattle.laws.proofs.FilledRows.{filled-past}
use Rattle.shares.proofs.spare.add.Goals as goal
use Rattle.shares.proofs.spare.add.Goals.{In-loop-row}

pub loop-row-init : goal.loop-row-init
loop-row-init c = filled_none _ _

-- the row's entry is not written yet
unwritten : (c : In-loop-row) → get_or c.loop-row.out c.loop-row.row 0 ≡ get_or c.args.out.now c.loop-row.row 0
unwritten c = filled-past _ _ _ c.loop-row.invariant c.loop-row.row (le_refl _)

pub overflow_add-out : goal.overflow_add-out
overflow_add-out c =
    omega (arith, unwritten (goal.at.overflow_add-out c).In-loop-row, c.requires.fits c.loop-row.row (omega arith))

pub loop-row-preserved : goal.loop-row-preserved
loop-row-preserved c =
    filled_more _ _ _ c.loop-row.invariant (omega (arith, unwritten (goal.at.loop-row-preserved c).In-loop-row))
