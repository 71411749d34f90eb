-- `zeros_cause` finds the first byte that is not zero. The loop's invariant: each one passed holds.
-- Assumes nothing.
use mathlib.Core.Path.{sym, ◌∙◌}
use Rattle.std.proofs.lemmas.Result.{err_from_is_err_and}
use Rattle.values.proofs.Firsts.{first-refused}
use Rattle.causes.specs.Cause.{zeros_cause}
use Rattle.causes.proofs.tests.zeros_cause.Goals as goal

pub returns-in_err-told : goal.returns-in_err-told
unfolding zeros_cause
returns-in_err-told c =
    let failed = err_from_is_err_and c.from_residual.result c.from_residual.ensures.1 in
    rw (failed.1, failed.2)
    (sym (first-refused _ _ _ _ c.loop-i-test.true c.loop-i.invariant.1 (sym c.told.ensures ∙ c.in_err-told.was)))
