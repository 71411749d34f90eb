-- `checks` finds the first block whose check is wrong. The loop's invariant: the blocks passed had right ones.
-- Assumes nothing.
use mathlib.Core.Path.{◌≡◌}
use mathlib.Core.List.{List}
use Prim.Native.Nat.{ℕ, ◌≤◌, ◌-◌}
use Rattle.block.specs.Check.{check_holds}
use Rattle.values.specs.Refusals.{first, unless, wrong_check, Verdict, no_fault}
use Rattle.sections.specs.Blocks.{block_of}
use Rattle.layout.proofs.form.checks.Given as goal

abbrev pub check_at : List ℕ → ℕ → Verdict
check_at b k = unless (check_holds (block_of b k)) (wrong_check k)

abbrev pub invariant-loop-k : goal.invariant-loop-k
invariant-loop-k l = (l.k ≤ l.blocks) × (first (check_at l.book) l.k ≡ no_fault)

abbrev pub decreases-loop-k : goal.decreases-loop-k
decreases-loop-k l = l.blocks - l.k
