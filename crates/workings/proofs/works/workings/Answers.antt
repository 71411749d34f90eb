-- `workings` hands on the first fault before the rows, and else what the rows work out to.
-- Assumes nothing.
use mathlib.Core.Path.{sym}
use Rattle.std.proofs.lemmas.Result.{err_from_is_err_and}
use Rattle.book.proofs.Stages.{before-length}
use Rattle.workings.proofs.Worked.{answer-before}
use Rattle.workings.proofs.works.workings.Goals as goal

pub returns-in_err-lengths : goal.returns-in_err-lengths
returns-in_err-lengths c =
    let failed = err_from_is_err_and c.from_residual.result c.from_residual.ensures.1 in
    rw (failed.1, failed.2) (answer-before _ _ _ (before-length _ (sym c.in_err-lengths.ensures)))

pub returns-in_err-head : goal.returns-in_err-head
returns-in_err-head c =
    let failed = err_from_is_err_and c.from_residual-in_err-head.result c.from_residual-in_err-head.ensures.1 in
    rw (failed.1, failed.2) (answer-before _ _ _ c.in_err-head.ensures.refused)
