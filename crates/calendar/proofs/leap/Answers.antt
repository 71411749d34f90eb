-- `leap` makes the three tests of the rule.
-- Assumes nothing.
use borrow.Author.Rules.{rules}
use Rattle.calendar.specs.Year.{leap}
use Rattle.calendar.proofs.leap.Goals as goal

pub returns : goal.returns
unfolding leap
returns c = search rules
