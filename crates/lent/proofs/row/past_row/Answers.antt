-- `past_row` tests a row by its numbers, or by the offer that they make.
-- Assumes nothing.
use mathlib.Core.Path.{refl, sym, ◌∙◌}
use Rattle.lent.specs.inner.Drafts.{tested_row}
use Rattle.lent.proofs.Passing.{alone-tested}
use Rattle.lent.proofs.row.past_row.Goals as goal

pub returns-then-passes_alone : goal.returns-then-passes_alone
returns-then-passes_alone c =
    let a = c.args in
    let passes = sym c.passes_alone.ensures ∙ c.if-passes_alone.true in
    alone-tested a.row passes a.edition a.d a.i

pub returns : goal.returns
unfolding tested_row
returns c = rw (c.rows_before.ensures, c.row_fault-fault.ensures, c.offer_in-o.ensures) refl
