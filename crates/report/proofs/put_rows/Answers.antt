-- `put_rows` puts the line of one row after another. The loop's invariant: the lines of the rows so far were put.
-- Assumes nothing.
use Rattle.report.proofs.Fitting.{rows_none, rows_more, rows-counted}
use native.Mathlib.Omega.{arith}
use borrow.Author.Rules.{rules}
use Rattle.report.proofs.put_rows.Goals as goal

pub loop-row-init : goal.loop-row-init
loop-row-init c = (search rules, search rules, rows_none _ (omega arith), omega arith)

pub put_offer-behind-requires : goal.put_offer-behind-requires
put_offer-behind-requires c =
    record {
      row_in_bounds = c.requires.inside.0.within c.loop-row.row (omega arith);
      at_in_bounds = omega arith;
    }

pub loop-row-preserved : goal.loop-row-preserved
loop-row-preserved c =
    let inv = c.loop-row.invariant in
    let put = c.put_offer-behind.ensures in
    (search rules, search rules, rows_more _ _ inv.2 put.0, omega (arith, inv.3, put.1))

pub returns : goal.returns
returns c =
    let inv = c.loop-row.invariant in
    (rows-counted _ (omega arith) inv.2, omega (arith, inv.3))
