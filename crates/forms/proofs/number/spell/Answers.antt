-- `spell` leaves the point out where there are no places.
-- Assumes nothing.
use Prim.Native.Nat.{◌≤◌}
use native.Mathlib.Nat.{min-eq_left}
use native.Mathlib.Omega.{arith}
use borrow.Author.Tests.{eq-eqb, ne_eqb}
use Rattle.forms.specs.inner.Plain.{plain_text}
use Rattle.forms.proofs.number.spell.Goals as goal

pub returns-then-places-eq0 : goal.returns-then-places-eq0
unfolding plain_text
returns-then-places-eq0 c = rw (eq-eqb _ _ c.if-places-eq0.true) c.put_number.ensures

pub returns-else-places-eq0 : goal.returns-else-places-eq0
unfolding plain_text
returns-else-places-eq0 c =
    let few : c.args.places ≤ 19 = omega arith in
    rw (ne_eqb _ _ c.if-places-eq0.false) (rw (min-eq_left few) at c.put_decimal.ensures)
