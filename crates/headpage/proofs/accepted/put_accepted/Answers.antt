-- `put_accepted` puts the market, the price levels and the level that is divided, one behind the other, of a book that has workings.
-- Assumes nothing.
use Rattle.forms.proofs.Shows.{shows-none, shows_then}
use Rattle.headpage.specs.Accepted.{cleared_parts, accepted_parts}
use Rattle.headpage.proofs.accepted.put_accepted.Goals as goal

pub returns-in_default : goal.returns-in_default
unfolding accepted_parts
returns-in_default c = rw (← c.workings.ensures, c.in_default.is) (shows-none _ _)

pub returns : goal.returns
unfolding cleared_parts accepted_parts
returns c =
    rw (← c.workings.ensures, c.in-Ok.is)
    (shows_then _ _ _ _ _ _ _ _ c.put_market-market.ensures
    (shows_then _ _ _ _ _ _ _ _ c.put_levels-levels.ensures c.put_divided.ensures))
