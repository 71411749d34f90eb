-- `section_fault` finds the first block of a section whose layout is wrong. The loop's invariant: those passed had right ones.
-- Assumes nothing.
use mathlib.Core.Path.{◌≡◌}
use Prim.Native.Nat.{◌≤◌, ◌-◌}
use Rattle.values.specs.Refusals.{first, no_fault}
use Rattle.sections.specs.Section.{block_fault}
use Rattle.sections.proofs.rows.section_fault.Given as goal

abbrev pub invariant-loop-j : goal.invariant-loop-j
invariant-loop-j l = (l.j ≤ l.j-end) × (first (block_fault l.book l.section) l.j ≡ no_fault)

abbrev pub decreases-loop-j : goal.decreases-loop-j
decreases-loop-j l = l.j-end - l.j
