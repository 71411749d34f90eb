-- The first i rows stand in the room.
use Rattle.std.proofs.Common.{◌≡◌}
use Rattle.lent.proofs.Placing.{placed}
use Rattle.ozpinduru.proofs.write.put_rows.Given as goal

abbrev pub invariant-loop-i : goal.invariant-loop-i
invariant-loop-i l = l.room ≡ placed l.edition l.fn.room l.fn.rows l.i
