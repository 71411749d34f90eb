-- `put_ended` puts a number and the byte behind it.
-- Assumes nothing.
use Rattle.report.proofs.Fitting.{fitted-ended, fitted-place, ended-long}
use native.Mathlib.Omega.{arith}
use Rattle.report.proofs.lines.put_ended.Goals as goal

pub returns : goal.returns
returns c =
    let small = ended-long c.args.number c.args.end (omega arith) in
    let f = fitted-ended (omega arith) c.requires c.put_number-behind.ensures c.put_byte.ensures in
    (f, omega (arith, fitted-place f, small))
