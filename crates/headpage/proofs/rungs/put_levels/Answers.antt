-- `put_levels` puts the head and one rung after another. The loop's invariant: the rungs so far were put behind the head.
-- Assumes nothing.
use Prim.Native.Nat.{◌-◌}
use Rattle.forms.proofs.Shows.{shows_then}
use Rattle.forms.proofs.Putting.{parts_none, parts_more, parts-counted}
use Rattle.headpage.specs.Levels.{levels_parts}
use native.Mathlib.Omega.{arith}
use borrow.Author.Rules.{rules}
use Rattle.headpage.proofs.rungs.put_levels.Goals as goal

pub loop-k-init : goal.loop-k-init
loop-k-init c = (search rules, search rules, parts_none _ _ _)

pub loop-k-preserved : goal.loop-k-preserved
loop-k-preserved c =
    (search rules, search rules, parts_more _ _ _ _ _ _ _ _ c.loop-k.invariant.2 c.put_rung_of-behind.ensures)

pub returns : goal.returns
unfolding levels_parts
returns c =
    shows_then _ _ _ _ _ _ _ _ c.put_ladder_head-behind.ensures (parts-counted _ _ _ _ _ (omega arith) c.loop-k.invariant.2)
