-- `put_turn_of` puts the turn of a row whose level receives something and not all.
-- Assumes nothing.
use Rattle.forms.proofs.Shows.{shows-none, shows-one}
use Rattle.rowpages.specs.Row.{turn_parts}
use Rattle.rowpages.proofs.row.put_turn_of.Goals as goal

pub returns-then-s : goal.returns-then-s
unfolding turn_parts
returns-then-s c = rw c.if-s.true (shows-none _ _)

pub returns : goal.returns
unfolding turn_parts
returns c = rw c.if-s.false (shows-one c.put_turn.ensures)
