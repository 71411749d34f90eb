-- `put_spaces` puts one space a turn.
-- Assumes nothing.
use mathlib.Core.Path.{◌≡◌, ◌∙◌}
use mathlib.Core.List.{[], ◌∷◌}
use Prim.Native.Nat.{ℕ, suc, ◌+◌, ◌-◌}
use native.Mathlib.Omega.{arith}
use lib.ListN.{replicate}
use Rattle.forms.proofs.Puts.{put-length}
use Rattle.forms.proofs.Left.{left_less, left-none}
use Rattle.forms.proofs.put.put_spaces.Goals as goal

pub loop-preserved : goal.loop-preserved
loop-preserved c =
    let l = c.loop in
    let put = c.put_byte-place.ensures in
    let left : ℕ = c.args.spaces - (l.counter + 1) in
    let more : c.args.spaces - l.counter ≡ suc left = omega arith in
    (put-length put ∙ l.invariant.0, left_less (32 ∷ []) (replicate left 32) (omega arith) (rw more at l.invariant.1) put)

pub returns : goal.returns
returns c =
    let none : c.args.spaces - c.loop.counter ≡ 0 = omega arith in left-none (rw none at c.loop.invariant.1)
