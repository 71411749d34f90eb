-- `test_row` tests a row and keeps what the search for a repeat needs.
-- Assumes nothing.
use lib.ListN.{length-set}
use Rattle.lent.specs.inner.Drafts.{kept_row}
use native.Mathlib.Omega.{arith}
use borrow.Author.Rules.{rules}
use Rattle.lent.proofs.tested.test_row.Goals as goal

pub bounds-kept-half : goal.bounds-kept-half
bounds-kept-half c =
    let a = c.args in
    rw (length-set a.kept.now a.i a.row.resource) (omega (arith, c.requires.0))

pub returns : goal.returns
unfolding kept_row
returns c = search rules
