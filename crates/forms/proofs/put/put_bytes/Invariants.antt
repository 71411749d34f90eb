-- `put_bytes` puts one byte a turn.
-- Assumes nothing.
use mathlib.Core.Path.{◌≡◌}
use lib.ListN.{length, drop}
use Rattle.forms.proofs.Left.{Left}
use Rattle.forms.proofs.put.put_bytes.Given as goal

abbrev pub invariant-loop-byte : goal.invariant-loop-byte
invariant-loop-byte l =
    (length l.room ≡ length l.initial.room) × Left l.initial.room l.at l.bytes l.room l.place (drop l.byte-index l.bytes)
