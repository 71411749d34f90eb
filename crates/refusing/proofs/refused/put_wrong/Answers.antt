-- `put_wrong` puts the values of a row for 7, and else its offer behind what it is held against.
-- Assumes nothing.
use Rattle.forms.proofs.Shows.{shows-one, shows_then}
use Rattle.refusing.proofs.Others.{wrong-other}
use Rattle.refusing.proofs.refused.put_wrong.Goals as goal

pub returns-in-OfferOutOfRange : goal.returns-in-OfferOutOfRange
returns-in-OfferOutOfRange c = rw c.in-OfferOutOfRange.is (shows-one c.put_values.ensures)

pub returns-in_default : goal.returns-in_default
returns-in_default c =
    rw (wrong-other _ _ _ _ _ _ c.in_default.not-OfferOutOfRange)
    (shows_then _ _ _ _ _ _ _ _ c.put_against-against.ensures (shows-one c.put_offer.ensures))
