-- `put_row` puts an offer whose step its edition has, and leaves the place of any other.
-- Assumes nothing.
use mathlib.Core.Path.{sym, ◌∙◌}
use borrow.Author.Rules.{rules}
use Rattle.places.proofs.Fields.{step_small, row-left, row_put}
use Rattle.places.proofs.place.put_row.Goals as goal

pub returns-then-not-step_within : goal.returns-then-not-step_within
returns-then-not-step_within c = row-left _ _ _ _ (sym c.step_within.ensures ∙ c.if-not-step_within.true)

pub put_place-requires : goal.put_place-requires
put_place-requires c =
    let a = c.args in
    (search rules, step_small a.edition a.o.step (sym c.step_within.ensures ∙ c.if-not-step_within.false))

pub returns : goal.returns
returns c =
    row_put _ _ _ _ (sym c.step_within.ensures ∙ c.if-not-step_within.false)
    c.put_place.ensures
