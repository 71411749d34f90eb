-- `put_short` puts a number of 32 bits, which has 10 digits at most.
-- Assumes nothing.
use Rattle.report.proofs.Fitting.{fitted-place, ended-short}
use native.Mathlib.Omega.{arith}
use Rattle.report.proofs.lines.put_short.Goals as goal

pub returns : goal.returns
returns c =
    let small = ended-short c.args.number c.args.end (omega arith) in
    let f = rw c.from.ensures at c.put_ended.ensures.0 in
    (f, omega (arith, fitted-place f, small))
