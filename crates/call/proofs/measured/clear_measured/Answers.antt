-- `clear_measured` hands on the first fault before the rows, and else what the rows clear.
-- Assumes nothing.
use Rattle.std.proofs.lemmas.Result.{err_from_is_err_and}
use Rattle.call.proofs.Calls.{fault-before, outcome-refused}
use Rattle.call.proofs.measured.clear_measured.Goals as goal

pub returns-in_err-head : goal.returns-in_err-head
returns-in_err-head c =
    let p = err_from_is_err_and c.from_residual.result c.from_residual.ensures.1 in
    rw (p.1, p.2) (outcome-refused _ _ _ _ (fault-before _ _ _ _ c.in_err-head.ensures.refused))
