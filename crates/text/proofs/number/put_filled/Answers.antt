-- `put_filled` puts the digits that `io::decimal` spells.
-- Assumes nothing.
use native.Mathlib.Omega.{arith}
use Rattle.text.proofs.DigitCounts.{decimal-text}
use Rattle.text.proofs.number.put_filled.Goals as goal

pub returns : goal.returns
returns c =
    let spelled = c.decimal-k.ensures in
    let n = c.args.n in
    rw (← decimal-text n _ (omega arith) spelled.len spelled.digits) c.put_right.ensures
