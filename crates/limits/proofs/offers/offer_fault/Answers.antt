-- `offer_fault` makes both tests, and the price's decides first.
-- Assumes nothing.
use mathlib.Core.Path.{refl}
use Rattle.limits.proofs.Tested.{offer_fault-unpriced, offer_fault-outside, offer_fault-passed}
use Rattle.limits.proofs.offers.offer_fault.Goals as goal

pub returns-then-needed-is_given : goal.returns-then-needed-is_given
returns-then-needed-is_given c = offer_fault-unpriced _ _ _ _ _ _ c.is_given.ensures refl c.if-needed-is_given.true

pub returns-then-not-offer_in_range : goal.returns-then-not-offer_in_range
returns-then-not-offer_in_range c =
    offer_fault-outside _ _ _ _ _ _
    c.is_given.ensures
    c.offer_in_range.ensures
    c.if-needed-is_given.false
    c.if-not-offer_in_range.true

pub returns : goal.returns
returns c =
    offer_fault-passed _ _ _ _ _ _
    c.is_given.ensures
    c.offer_in_range.ensures
    c.if-needed-is_given.false
    c.if-not-offer_in_range.false
