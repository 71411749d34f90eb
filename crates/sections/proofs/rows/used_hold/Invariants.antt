-- `used_hold` tells whether the used places are laid out as such. The loop's invariant: those passed are.
-- Assumes nothing.
use mathlib.Core.Path.{◌≡◌}
use mathlib.Core.Bool.{true}
use Prim.Native.Nat.{◌≤◌, ◌-◌}
use lib.Dec.{ltb}
use Rattle.laws.specs.Sum.{every}
use Rattle.sections.specs.Blocks.{place_of}
use Rattle.sections.specs.inner.Section.{used_only}
use Rattle.sections.proofs.rows.used_hold.Given as goal

abbrev pub invariant-loop-i : goal.invariant-loop-i
invariant-loop-i l = (l.i ≤ 15) × (every (λ j. used_only l.last (ltb j l.here) (place_of l.s j)) l.i ≡ true)

abbrev pub decreases-loop-i : goal.decreases-loop-i
decreases-loop-i l = 15 - l.i
