-- `turn` looks at a number between the two, and where that tells nothing beside the nearest key.
-- Assumes nothing.
use Rattle.contest.proofs.Closing.{few-many, looked-then}
use Rattle.contest.proofs.round.Round.turn.Goals as goal

pub look-a-requires : goal.look-a-requires
look-a-requires c = c.requires

pub overflow_sub-a : goal.overflow_sub-a
overflow_sub-a c = few-many _ _ _ _ _ c.look-a.ensures.closer.between

pub overflow_sub-b : goal.overflow_sub-b
overflow_sub-b c = few-many _ _ _ _ _ c.requires.between

pub returns-then-a-b : goal.returns-then-a-b
returns-then-a-b c = c.look-a.ensures

pub raise-requires : goal.raise-requires
raise-requires c = c.look-a.ensures.closer.between

pub returns-then-b-a : goal.returns-then-b-a
returns-then-b-a c = looked-then _ _ _ _ _ _ _ _ c.look-a.ensures c.raise.ensures

pub lower-requires : goal.lower-requires
lower-requires c = c.look-a.ensures.closer.between

pub returns : goal.returns
returns c = looked-then _ _ _ _ _ _ _ _ c.look-a.ensures c.lower.ensures
