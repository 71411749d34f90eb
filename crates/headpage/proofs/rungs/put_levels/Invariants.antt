-- `put_levels` puts the head and one rung after another. The loop's invariant: the rungs so far were put behind the head.
-- Assumes nothing.
use mathlib.Core.Path.{◌≡◌}
use Prim.Native.Nat.{◌≤◌, ◌-◌}
use lib.ListN.{length}
use Rattle.forms.specs.Shown.{Shows}
use Rattle.forms.specs.Parts.{parts_of}
use Rattle.workings.specs.Works.{worked}
use Rattle.headpage.specs.Facts.{ladder_in}
use Rattle.headpage.specs.Levels.{rung_parts}
use Rattle.headpage.proofs.rungs.put_levels.Given as goal

abbrev pub invariant-loop-k : goal.invariant-loop-k
invariant-loop-k l =
    (l.k ≤ 11)
    × (length l.room ≡ length l.initial.room)
    × Shows l.initial.room l.initial.behind (parts_of (λ i. rung_parts i (ladder_in (worked l.book 600 i 600))) l.k) l.room l.behind

abbrev pub decreases-loop-k : goal.decreases-loop-k
decreases-loop-k l = 11 - l.k
