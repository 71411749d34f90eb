-- `put_together_of` puts the sums of all steps behind the last of several.
-- Assumes nothing.
use borrow.Author.Tests.{lt-ltb, le-ltb}
use Rattle.forms.proofs.Shows.{shows-none, shows-one}
use Rattle.rowpages.proofs.together.put_together_of.Goals as goal

pub returns-in_default : goal.returns-in_default
returns-in_default c = rw (← c.offer_of.ensures, c.in_default.is) (shows-none _ _)

pub returns-then-end-steps : goal.returns-then-end-steps
returns-then-end-steps c = rw (← c.offer_of.ensures, c.in-Some.is, lt-ltb _ _ c.if-end-steps.true) (shows-none _ _)

pub returns-then-steps-goes_on : goal.returns-then-steps-goes_on
returns-then-steps-goes_on c =
    rw (← c.offer_of.ensures, c.in-Some.is, le-ltb _ _ c.if-end-steps.false, ← c.goes_on.ensures, c.if-steps-goes_on.true)
    (shows-none _ _)

pub returns : goal.returns
returns c =
    rw (← c.offer_of.ensures, c.in-Some.is, le-ltb _ _ c.if-end-steps.false, ← c.goes_on.ensures, c.if-steps-goes_on.false, ← c.sums_from-cleared.ensures.clears, ← c.sums_from-cleared.ensures.offers)
    (shows-one c.put_together.ensures)
