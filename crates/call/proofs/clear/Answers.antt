-- `clear` answers every string of bytes.
-- Assumes nothing.
use Rattle.std.proofs.lemmas.Result.{err_from_is_err_and}
use mathlib.Core.Path.{sym}
use Rattle.book.proofs.Stages.{before-length}
use Rattle.call.proofs.Calls.{fault-before, outcome-refused}
use Rattle.call.proofs.clear.Goals as goal

pub returns-in_err-lengths : goal.returns-in_err-lengths
returns-in_err-lengths c =
    let p = err_from_is_err_and c.from_residual.result c.from_residual.ensures.1 in
    rw (p.1, p.2) (outcome-refused _ _ _ _ (fault-before _ _ _ _ (before-length _ (sym c.in_err-lengths.ensures))))
