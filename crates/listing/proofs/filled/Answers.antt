-- `filled` counts the entries that are filled, by what is answered.
-- Assumes nothing.
use Rattle.listing.proofs.Listings.{filled-given, filled-refused}
use Rattle.listing.proofs.filled.Goals as goal

pub returns-then-c-eq1 : goal.returns-then-c-eq1
returns-then-c-eq1 c = filled-given _ c.if-c-eq1.true

pub returns-else-c-eq1 : goal.returns-else-c-eq1
returns-else-c-eq1 c = filled-refused _ c.if-c-eq1.false
