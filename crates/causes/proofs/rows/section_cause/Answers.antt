-- `section_cause` finds the first block that fails. The loop's invariant: each one passed holds.
-- Assumes nothing.
use mathlib.Core.Path.{◌≡◌, sym, ap, ◌∙◌}
use native.Mathlib.Omega.{arith}
use Rattle.std.proofs.lemmas.Result.{err_from_is_err_and}
use Rattle.values.specs.Refusals.{first}
use Rattle.values.proofs.Firsts.{first_on, first-refused}
use Rattle.sections.proofs.Parts.{block-part}
use Rattle.causes.specs.Cause.{block_cause, section_cause}
use Rattle.causes.proofs.rows.section_cause.Goals as goal
use Rattle.causes.proofs.rows.section_cause.Goals.{After-rows_cause}

-- what the call ensures, of the block of the definition
as_block : (c : After-rows_cause) → c.rows_cause.result ≡ block_cause c.args.book.now c.args.section c.loop-j.j
unfolding block_cause
as_block c = simp (block-part, c.rows_here-here.ensures) at c.rows_cause.ensures

pub loop-j-preserved : goal.loop-j-preserved
loop-j-preserved c =
    let at = goal.at.loop-j-preserved c in
    (omega arith, first_on _ _ c.loop-j.invariant.1 (sym (as_block at.After-rows_cause) ∙ c.in_ok-rows_cause.was))

pub returns-in_err-rows_cause : goal.returns-in_err-rows_cause
unfolding section_cause
returns-in_err-rows_cause c =
    let at = goal.at.returns-in_err-rows_cause c in
    let failed = err_from_is_err_and c.from_residual.result c.from_residual.ensures.1 in
    rw (failed.1, failed.2)
    (sym (first-refused _ _ _ _ c.loop-j-test.true c.loop-j.invariant.1
    (sym (as_block at.After-rows_cause) ∙ c.in_err-rows_cause.was))
    ∙ ap (first _) c.blocks_for-j-end.ensures)
