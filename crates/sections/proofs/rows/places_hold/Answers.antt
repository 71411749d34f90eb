-- `places_hold` meets its contract: it tests the used places, and then the bytes after them.
-- Assumes nothing.
use native.Mathlib.Omega.{arith}
use Rattle.sections.proofs.Places.{places-rest, rest-least}
use Rattle.sections.proofs.rows.places_hold.Goals as goal

pub returns-then-used_hold : goal.returns-then-used_hold
returns-then-used_hold c = grind (arith, places-rest, rest-least)

pub returns-else-used_hold : goal.returns-else-used_hold
returns-else-used_hold c = grind (arith, places-rest)
