-- `put_contest` puts the places between how many are left out before them and behind.
-- Assumes nothing.
use Rattle.forms.proofs.Shows.{shows-one, shows_more, shows_then}
use Rattle.headpage.specs.Division.{contest_parts}
use Rattle.headpage.proofs.division.put_contest.Goals as goal

pub returns : goal.returns
unfolding contest_parts
returns c =
    rw (← c.saturating_sub.ensures)
    (shows_more _ _ _ c.put_left_before-before.ensures
    (shows_then _ _ _ _ _ _ _ _ c.put_places-places.ensures (shows-one c.put_left_behind.ensures)))
