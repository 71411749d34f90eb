-- `over_first` goes on over bytes 11 to 0. The loop's invariant: what the board holds after so many steps from where it stood.
-- Assumes nothing.
use Prim.Native.Nat.{◌≤◌, ◌-◌}
use Rattle.block.specs.Bytes.{byte}
use Rattle.block.proofs.Boards.{Board}
use Rattle.block.proofs.running.over_first.Given as goal

abbrev pub invariant-loop-i : goal.invariant-loop-i
invariant-loop-i l = (l.i ≤ 12) × Board (byte l.s) 12 l.initial.after.sum l.initial.after.total (12 - l.i) l.after.sum l.after.total

abbrev pub decreases-loop-i : goal.decreases-loop-i
decreases-loop-i l = l.i
