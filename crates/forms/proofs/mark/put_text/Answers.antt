-- `put_text` separates what `spell` leaves in a local room.
-- Assumes nothing.
use native.Mathlib.Nat.{le_refl}
use native.Mathlib.Omega.{arith}
use lib.ListN.{replicate}
use Rattle.forms.proofs.Numbers.{text-separated, plain-front, plain_end}
use Rattle.forms.proofs.mark.put_text.Goals as goal

pub spell-end-requires : goal.spell-end-requires
spell-end-requires c = c.places_of-places.ensures.1

pub wholes_of-requires : goal.wholes_of-requires
wholes_of-requires c = c.places_of-places.ensures.1

pub returns : goal.returns
returns c =
    let a = c.args in
    let places = c.places_of-places.ensures in
    let spelled = c.spell-end.ensures in
    let front = plain-front (replicate 41 0) _ a.n (le_refl 41) places.1 (omega arith) spelled in
    let end = plain_end (replicate 41 0) _ a.n (le_refl 41) places.1 (omega arith) spelled in
    rw (text-separated a.mark a.n places.0 front end c.wholes_of.ensures) at c.put_separated.ensures
