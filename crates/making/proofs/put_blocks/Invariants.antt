-- `put_blocks` makes a block a turn. The loop's invariant: so many blocks are made.
-- Assumes nothing.
use mathlib.Core.Path.{◌≡◌}
use Prim.Native.Nat.{◌-◌, ◌≤◌}
use lib.ListN.{length}
use Rattle.making.specs.inner.Made.{blocks_made}
use Rattle.sections.specs.Section.{blocks_for}
use Rattle.making.proofs.put_blocks.Given as goal

abbrev pub invariant-loop-j : goal.invariant-loop-j
invariant-loop-j l =
    (l.j-end ≡ blocks_for l.rows)
    × (l.j ≤ l.j-end)
    × (length l.b ≡ length l.initial.b)
    × (l.b ≡ blocks_made l.initial.b l.rows l.j)

abbrev pub decreases-loop-j : goal.decreases-loop-j
decreases-loop-j l = l.j-end - l.j
