-- `days_of` asks whether the year after is a leap year.
-- Assumes nothing.
use mathlib.Core.Path.{sym, ◌∙◌}
use native.Mathlib.Omega.{arith}
use Rattle.calendar.proofs.Days.{days-long, days-short}
use Rattle.calendar.proofs.days_of.Goals as goal

pub returns-then-leap : goal.returns-then-leap
returns-then-leap c = (sym (days-long _ (sym (rw c.from.ensures at c.leap.ensures) ∙ c.if-leap.true)), omega arith)

pub returns-else-leap : goal.returns-else-leap
returns-else-leap c = (sym (days-short _ (sym (rw c.from.ensures at c.leap.ensures) ∙ c.if-leap.false)), omega arith)
