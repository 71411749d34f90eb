-- `shares::spare::add` adds the tenths row by row. The loop's invariant: the rows passed hold both.
-- Assumes nothing.
use mathlib.Core.Path.{◌≡◌}
use Prim.Native.Nat.{◌+◌}
use lib.ListN.{get_or}
use Rattle.laws.specs.Filled.{filled}
use Rattle.shares.proofs.spare.add.Given as goal

abbrev pub invariant-loop-row : goal.invariant-loop-row
invariant-loop-row l = l.out ≡ filled (λ i. get_or l.initial.out i 0 + get_or l.tenths i 0) l.row l.initial.out
