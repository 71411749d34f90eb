-- `earlier_row` looks at one row after another. The loop's invariant: none of those passed has the resource.
-- Assumes nothing.
use Prim.Native.Nat.{◌-◌}
use Rattle.layout.specs.Form.{form_fault}
use Rattle.layout.specs.Read.{contents_of}
use Rattle.readout.specs.Read.{offers_by}
use Rattle.readout.proofs.Earlier.{NoneBefore}
use Rattle.readout.proofs.earlier_row.Given as goal

abbrev pub invariant-loop-earlier : goal.invariant-loop-earlier
invariant-loop-earlier l = NoneBefore (offers_by (form_fault l.book) (contents_of l.book)) l.row l.earlier

abbrev pub decreases-loop-earlier : goal.decreases-loop-earlier
decreases-loop-earlier l = l.row - l.earlier
