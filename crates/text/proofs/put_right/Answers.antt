-- `put_right` fills the gap, and puts the bytes behind it, where both fit.
-- Assumes nothing.
use native.Mathlib.Omega.{arith}
use lib.ListN.{length-take, length-drop}
use Rattle.text.proofs.Puts.{written-past, written-clamped}
use Rattle.text.proofs.Fills.{length-right, written-right}
use Rattle.text.proofs.put_right.Goals as goal

pub returns-then-gap-bytes : goal.returns-then-gap-bytes
returns-then-gap-bytes c =
    let a = c.args in
    let long = length-right a.width a.fill a.bytes.now in
    written-past _ _ _ (omega arith) (omega arith)

pub returns : goal.returns
returns c =
    written-clamped _ _ _ c.min-place.ensures
    (written-right _ _ _ _ _ _ c.saturating_sub-gap.ensures (omega arith) c.put_bytes.ensures (omega arith)
    (simp (length-take, length-drop) (omega arith)) (c.fill.ensures.after (λ y e. e)))
