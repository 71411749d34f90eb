-- `put_right` puts the spaces first.
-- Assumes nothing.
use native.Mathlib.Omega.{arith}
use lib.ListN.{replicate}
use Rattle.text.specs.Put.{right_text}
use Rattle.forms.proofs.Puts.{put-put}
use Rattle.forms.proofs.put.put_right.Goals as goal

pub returns : goal.returns
unfolding right_text
returns c =
    let a = c.args in
    rw (← c.saturating_sub.ensures)
    (put-put a.room.now a.at (replicate c.saturating_sub.result 32) a.bytes.now (omega arith) c.put_spaces-begin.ensures
    c.put_bytes.ensures)
