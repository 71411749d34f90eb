-- `put_divided` puts nothing of a level that receives nothing or all, and the contest where a tenth is spare.
-- Assumes nothing.
use borrow.Author.Tests.{eq-eqb, ne_eqb}
use Rattle.forms.proofs.Shows.{shows-none, shows-one, shows_more}
use Rattle.headpage.specs.Division.{divided_parts}
use Rattle.headpage.proofs.division.put_divided.Goals as goal

pub returns-then-level : goal.returns-then-level
unfolding divided_parts
returns-then-level c = rw c.if-level.true (shows-none _ _)

pub returns-then-contest-eq0 : goal.returns-then-contest-eq0
unfolding divided_parts
returns-then-contest-eq0 c =
    rw (c.if-level.false, eq-eqb _ 0 c.if-contest-eq0.true) (shows-one c.put_division-divided.ensures)

pub returns : goal.returns
unfolding divided_parts
returns c =
    rw (c.if-level.false, ne_eqb _ 0 c.if-contest-eq0.false) (shows_more _ _ _ c.put_division-divided.ensures c.put_contest.ensures)
