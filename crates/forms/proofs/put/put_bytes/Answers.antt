-- `put_bytes` puts one byte a turn.
-- Assumes nothing.
use mathlib.Core.Path.{◌∙◌}
use native.Mathlib.Omega.{arith}
use lib.ListN.{drop_of_length-le}
use Rattle.forms.proofs.Puts.{put-length}
use Rattle.forms.proofs.Left.{left-byte, left-none}
use Rattle.forms.proofs.put.put_bytes.Goals as goal

pub loop-byte-preserved : goal.loop-byte-preserved
loop-byte-preserved c =
    let l = c.loop-byte in
    let put = c.put_byte-place.ensures in
    (put-length put ∙ l.invariant.0, left-byte c.args.bytes.now l.byte-index (omega arith) (omega arith) l.invariant.1 put)

pub returns : goal.returns
returns c =
    let l = c.loop-byte in
    left-none (rw (drop_of_length-le c.args.bytes.now {i = l.byte-index} (omega arith)) at l.invariant.1)
