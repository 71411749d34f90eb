-- `put_report` puts the lines of a clearing only where the call answered with one, and its book was accepted.
-- Assumes nothing.
use Rattle.report.proofs.Answers.{answered-accepted, sold-reported, refusal-reported}
use Rattle.report.proofs.Fitting.{fitted-as}
use borrow.Author.Rules.{rules}
use Rattle.report.proofs.put_report.Goals as goal

pub put_clearing-requires : goal.put_clearing-requires
put_clearing-requires c =
    record {
      book_value = answered-accepted _ _ _ _ _ _ c.clear.ensures _ c.in-Ok.is;
      in_bounds = (search rules, search rules);
      at_in_bounds = search rules;
    }

pub returns-in-Ok : goal.returns-in-Ok
returns-in-Ok c =
    let same = sold-reported _ _ _ _ _ _ c.clear.ensures _ c.in-Ok.is in
    let f = fitted-as same c.put_clearing.ensures in
    record {
      fitted = f;
      prefix_len = f.written.counts;
    }

pub returns-in-Err : goal.returns-in-Err
returns-in-Err c =
    let same = refusal-reported _ _ _ _ _ _ c.clear.ensures _ (search rules) (search rules) c.in-Err.is in
    let f = fitted-as same c.put_refusal.ensures in
    record {
      fitted = f;
      prefix_len = f.written.counts;
    }
