-- `quote` is what `clear` answers into buffers that are long enough for any book.
-- Assumes nothing.
use mathlib.Core.Path.{sym}
use native.Mathlib.Omega.{arith}
use Rattle.std.proofs.lemmas.Result.{err_from_is_err_and}
use Rattle.laws.proofs.Filling.{length-zeros}
use Rattle.book.proofs.Stages.{before-length}
use Rattle.call.proofs.Calls.{answer-before, outcome-answer}
use Rattle.call.proofs.quote.Goals as goal

pub returns-in_err-lengths : goal.returns-in_err-lengths
returns-in_err-lengths c =
    let p = err_from_is_err_and c.from_residual.result c.from_residual.ensures.1 in
    rw (p.1, p.2) (answer-before _ _ (before-length _ (sym c.in_err-lengths.ensures)))

pub returns : goal.returns
returns c =
    outcome-answer _ _ _ _ _ _ (omega (arith, length-zeros 600)) (omega (arith, length-zeros 600))
    c.clear_measured.ensures
