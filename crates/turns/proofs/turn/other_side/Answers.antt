-- `other_side` is the place at the other side of the cut.
-- Assumes nothing.
use borrow.Author.Tests.{lt-ltb, le-ltb}
use Rattle.turns.specs.Turn.{rival_place}
use Rattle.turns.proofs.turn.other_side.Goals as goal

pub returns-then-place-spares : goal.returns-then-place-spares
unfolding rival_place
returns-then-place-spares c = rw (lt-ltb _ _ c.if-place-spares.true)

pub returns-else-place-spares : goal.returns-else-place-spares
unfolding rival_place
returns-else-place-spares c = rw (le-ltb _ _ c.if-place-spares.false)
