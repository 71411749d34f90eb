-- `put_full` puts the parts of a row one behind the other.
-- Assumes nothing.
use Rattle.forms.proofs.Shows.{shows-one, shows_more, shows_then}
use Rattle.rowpages.specs.Row.{full_parts}
use Rattle.rowpages.proofs.row.put_full.Goals as goal

pub returns : goal.returns
unfolding full_parts
returns c =
    shows_more _ _ _ c.put_offer-offer.ensures
    (shows_more _ _ _ c.put_part-part.ensures
    (shows_then _ _ _ _ _ _ _ _ c.put_turn_of-turned.ensures (shows-one c.put_settled.ensures)))
