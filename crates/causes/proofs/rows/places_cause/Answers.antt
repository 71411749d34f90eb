-- `places_cause` finds the first place that fails. The loop's invariant: each one passed holds.
-- Assumes nothing.
use mathlib.Core.Path.{sym, ◌∙◌}
use Rattle.std.proofs.lemmas.Result.{err_from_is_err_and}
use Rattle.values.proofs.Firsts.{first-refused}
use Rattle.causes.specs.Cause.{places_cause}
use Rattle.causes.proofs.rows.places_cause.Goals as goal

pub returns-in_err-place_cause : goal.returns-in_err-place_cause
unfolding places_cause
returns-in_err-place_cause c =
    let failed = err_from_is_err_and c.from_residual.result c.from_residual.ensures.1 in
    rw (failed.1, failed.2)
    (sym (first-refused _ _ _ _ c.loop-i-test.true c.loop-i.invariant.1 (sym c.place_cause.ensures ∙ c.in_err-place_cause.was)))
