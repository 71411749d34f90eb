-- `row_works` is what a row works out to.
-- Assumes nothing.
use Rattle.workings.proofs.Rowed.{row_is}
use Rattle.workings.proofs.row.row_works.Goals as goal

pub returns : goal.returns
returns c = row_is _ _ _ _ _ _ _ _ c.turn_at-turn.ensures c.committed_of-committed.ensures.0 c.make_whole.ensures
