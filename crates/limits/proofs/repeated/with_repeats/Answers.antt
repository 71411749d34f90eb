-- `with_repeats` looks for a repeat among the rows before the refused one.
-- Assumes nothing.
use Rattle.limits.proofs.SecondPass.{with_repeats-repeat, with_repeats-none}
use Rattle.limits.proofs.repeated.with_repeats.Goals as goal

pub returns-then-repeat-limit : goal.returns-then-repeat-limit
returns-then-repeat-limit c =
    with_repeats-repeat _ _ _ _ _ _
    c.rows_before-limit.ensures
    c.first_repeat-repeat.ensures.0
    c.if-repeat-limit.true

pub returns-else-repeat-limit : goal.returns-else-repeat-limit
returns-else-repeat-limit c =
    with_repeats-none _ _ _ _ _ _
    c.rows_before-limit.ensures
    c.first_repeat-repeat.ensures.0
    c.if-repeat-limit.false
