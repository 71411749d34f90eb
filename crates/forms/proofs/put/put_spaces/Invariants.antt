-- `put_spaces` puts one space a turn.
-- Assumes nothing.
use mathlib.Core.Path.{◌≡◌}
use Prim.Native.Nat.{◌-◌}
use lib.ListN.{length, replicate}
use Rattle.forms.proofs.Left.{Left}
use Rattle.forms.proofs.put.put_spaces.Given as goal

abbrev pub invariant-loop : goal.invariant-loop
invariant-loop l =
    (length l.room ≡ length l.initial.room)
    × Left l.initial.room l.at (replicate l.spaces 32) l.room l.place (replicate (l.spaces - l.counter) 32)
