-- `put_places` puts one place after another. The loop's invariant: the places so far were put.
-- Assumes nothing.
use mathlib.Core.Path.{◌≡◌}
use Prim.Native.Nat.{◌+◌, ◌-◌, ◌≤◌}
use lib.ListN.{length}
use Rattle.forms.specs.Shown.{Shows}
use Rattle.forms.specs.Parts.{parts_of}
use Rattle.workings.specs.Works.{worked}
use Rattle.headpage.specs.Facts.{placed_in}
use Rattle.headpage.specs.Division.{place_parts}
use Rattle.headpage.proofs.division.put_places.Given as goal

abbrev pub invariant-loop-j : goal.invariant-loop-j
invariant-loop-j l =
    (l.j ≤ l.count)
    × (length l.room ≡ length l.initial.room)
    × Shows l.initial.room l.initial.behind (parts_of (λ i. place_parts l.edition l.spares (l.first + i) (placed_in (worked l.book 600 600 (l.first + i)))) l.j) l.room l.behind

abbrev pub decreases-loop-j : goal.decreases-loop-j
decreases-loop-j l = l.count - l.j
