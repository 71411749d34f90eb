-- `put_steps` puts the rule, and the row before where there is one.
-- Assumes nothing.
use Rattle.forms.proofs.Shows.{shows-none, shows-one, shows_more}
use Rattle.refusing.specs.Refused.{steps_parts}
use borrow.Author.Tests.{eq-eqb, ne_eqb}
use Rattle.refusing.proofs.refused.put_steps.Goals as goal

pub returns-then-row-eq0 : goal.returns-then-row-eq0
unfolding steps_parts
returns-then-row-eq0 c = rw (eq-eqb _ 0 c.if-row-eq0.true, ← c.rule_number.ensures) (shows-one c.put_rules.ensures)

pub returns-in_default : goal.returns-in_default
unfolding steps_parts
returns-in_default c = rw (ne_eqb _ 0 c.if-row-eq0.false, ← c.offer_of.ensures, c.in_default.is) (shows-none _ _)

pub returns : goal.returns
unfolding steps_parts
returns c =
    rw (ne_eqb _ 0 c.if-row-eq0.false, ← c.offer_of.ensures, c.in-Some.is, ← c.rule_number-2.ensures)
    (shows_more _ _ _ c.put_rules-rules.ensures (shows-one c.put_offer.ensures))
