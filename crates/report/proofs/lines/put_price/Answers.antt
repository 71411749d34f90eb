-- `put_price` puts a line for each kind of price.
-- Assumes nothing.
use Rattle.report.proofs.Fitting.{fitted, fitted-place, price-told, no-price-told}
use native.Mathlib.Omega.{arith}
use Rattle.report.proofs.lines.put_price.Goals as goal

pub returns-in-Some : goal.returns-in-Some
returns-in-Some c =
    let put = c.put_word.ensures in
    (price-told c.in-Some.is (rw c.from.ensures at put.0), omega (arith, put.1))

pub returns-in-None : goal.returns-in-None
returns-in-None c =
    let f = fitted (omega arith) c.put_bytes.ensures in
    (no-price-told c.in-None.is f, omega (arith, fitted-place f))
