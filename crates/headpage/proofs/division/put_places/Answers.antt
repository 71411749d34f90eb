-- `put_places` puts one place after another. The loop's invariant: the places so far were put.
-- Assumes nothing.
use Prim.Native.Nat.{◌-◌}
use Rattle.forms.proofs.Putting.{parts_none, parts_more, parts-counted}
use Rattle.headpage.specs.Division.{places_parts}
use native.Mathlib.Omega.{arith}
use borrow.Author.Rules.{rules}
use Rattle.headpage.proofs.division.put_places.Goals as goal

pub loop-j-init : goal.loop-j-init
loop-j-init c = (search rules, search rules, parts_none _ _ _)

pub loop-j-preserved : goal.loop-j-preserved
loop-j-preserved c =
    (search rules, search rules, parts_more _ _ _ _ _ _ _ _ c.loop-j.invariant.2 c.put_place_of-behind.ensures)

pub returns : goal.returns
unfolding places_parts
returns c =
    rw (← c.saturating_sub-first.ensures, ← c.min.ensures) (parts-counted _ _ _ _ _ (omega arith) c.loop-j.invariant.2)
