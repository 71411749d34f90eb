-- `earlier_row` looks at one row after another. The loop's invariant: none of those passed has the resource.
-- Assumes nothing.
use mathlib.Core.Path.{sym, ◌∙◌}
use Prim.Native.Nat.{◌<◌}
use lib.ListN.{length}
use Rattle.layout.specs.Form.{form_fault}
use Rattle.layout.specs.Read.{contents_of}
use Rattle.readout.specs.Read.{offers_by}
use Rattle.readout.proofs.Offered.{there-inside}
use Rattle.readout.proofs.Earlier.{none_before, none_more, earlier-absent, earlier-found, earlier-none}
use native.Mathlib.Omega.{arith}
use Rattle.readout.proofs.earlier_row.Goals as goal
use Rattle.readout.proofs.earlier_row.Goals.{Else-rows_of-row}

pub returns-then-rows_of-row : goal.returns-then-rows_of-row
returns-then-rows_of-row c = earlier-absent _ _ (omega (arith, c.if-rows_of-row.true, c.rows_of.ensures.0))

-- the row can be read
there : (c : Else-rows_of-row) → let a = c.args in
    a.row < length (offers_by (form_fault a.book.now) (contents_of a.book.now))
there c = omega (arith, c.if-rows_of-row.false, c.rows_of.ensures.0)

pub edition-stated-requires : goal.edition-stated-requires
edition-stated-requires c =
    omega (arith, there-inside _ _ (there (goal.at.edition-stated-requires c).Else-rows_of-row))

pub resource_of-resource-requires : goal.resource_of-resource-requires
resource_of-resource-requires c =
    (c.edition-stated.ensures.0, there (goal.at.resource_of-resource-requires c).Else-rows_of-row)

pub loop-earlier-init : goal.loop-earlier-init
loop-earlier-init c = none_before _ _

pub resource_of-requires : goal.resource_of-requires
resource_of-requires c =
    (c.edition-stated.ensures.0, omega (arith, there (goal.at.resource_of-requires c).Else-rows_of-row, c.loop-earlier-test.true))

pub returns-then-resource_of-resource : goal.returns-then-resource_of-resource
returns-then-resource_of-resource c =
    earlier-found _ _ (there (goal.at.returns-then-resource_of-resource c).Else-rows_of-row) _ (omega arith) c.loop-earlier.invariant
    (sym c.resource_of.ensures ∙ c.if-resource_of-resource.true ∙ c.resource_of-resource.ensures)

pub loop-earlier-preserved : goal.loop-earlier-preserved
loop-earlier-preserved c =
    none_more _ _ _ c.loop-earlier.invariant (λ e. c.if-resource_of-resource.false (c.resource_of.ensures ∙ e ∙ sym c.resource_of-resource.ensures))

pub returns : goal.returns
returns c = earlier-none _ _ (there (goal.at.returns c).Else-rows_of-row) _ (omega arith) c.loop-earlier.invariant
