-- The loop's invariant: what was read so far stands at the start of the bytes, and the reader gave it.
-- Assumes nothing.
use Rattle.std.proofs.Common.{length, ◌-◌, take, ◌≤◌, ◌≡◌}
use Rattle.std.specs.Io.KnownBytes.{Consumes}
use Rattle.input.proofs.read_input.Given as goal

abbrev pub invariant-loop-done : goal.invariant-loop-done
invariant-loop-done g l = record {
  kept : length l.bytes ≡ length l.initial.bytes;
  within : l.done ≤ length l.bytes;
  taken : Consumes (g.R.Read.remaining l.initial.reader) (g.R.Read.remaining l.reader) (take l.done l.bytes);
}

abbrev pub decreases-loop-done : goal.decreases-loop-done
decreases-loop-done g l = length l.initial.bytes - l.done
