-- `put_separated` puts one letter a turn, with the comma behind it.
-- Assumes nothing.
use mathlib.Core.Path.{◌≡◌}
use lib.ListN.{length, drop}
use Rattle.forms.specs.inner.Plain.{separated}
use Rattle.forms.proofs.Left.{Left}
use Rattle.forms.proofs.number.put_separated.Given as goal

abbrev pub invariant-loop-letter : goal.invariant-loop-letter
invariant-loop-letter l =
    (length l.room ≡ length l.initial.room)
    × Left l.initial.room l.at (separated l.whole l.letters) l.room l.place (separated l.left (drop l.letter-index l.letters))
