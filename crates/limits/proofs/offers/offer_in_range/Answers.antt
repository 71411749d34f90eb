-- `offer_in_range` joins the six tests that its callees and comparisons make.
-- Assumes nothing.
use mathlib.Core.Path.{◌≡◌}
use mathlib.Core.Bool.{Bool, ◌&&◌, and_assoc}
use lib.Dec.{leb}
use Rattle.limits.specs.Offers.{offer_in_range}
use Rattle.limits.proofs.offers.offer_in_range.Goals as goal

-- the code joins its tests from the left, the definition from the right
joined : (a b : Bool) {c d e f price quantity block step : Bool} → c ≡ price → d ≡ quantity → e ≡ block → f ≡ step
    → ((((a && b) && c) && d) && e) && f ≡ a && (b && (price && (quantity && (block && step))))
joined a b p q r s = rw (p, q, r, s) (simp and_assoc)

pub returns : goal.returns
unfolding offer_in_range
returns c =
    let o = c.args.o in
    joined (leb 1 o.resource) (leb 1 o.seller)
    c.given_within.ensures
    c.within.ensures
    c.given_within-2.ensures
    c.step_within.ensures
