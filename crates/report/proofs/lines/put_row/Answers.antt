-- `put_row` puts four numbers, one behind the other.
-- Assumes nothing.
use Rattle.report.specs.Lines.{row_text}
use Rattle.report.proofs.Fitting.{fitted-append}
use native.Mathlib.Omega.{arith}
use Rattle.report.proofs.lines.put_row.Goals as goal

pub returns : goal.returns
unfolding row_text
returns c =
    let four = c.put_ended.ensures in (
      fitted-append (fitted-append (fitted-append c.put_short-first.ensures.0 c.put_short-second.ensures.0) c.put_short-third.ensures.0) four.0,
      omega arith,
    )
