-- `verdict` is the first fault of a book: the rows are tested only where what comes before them passed.
-- Assumes nothing.
use mathlib.Core.Path.{sym, subst, ◌∙◌}
use Rattle.std.proofs.lemmas.Result.{err_from_is_err_and}
use Rattle.values.proofs.Firsts.{and_then-next, and_then-refused}
use Rattle.layout.specs.inner.Read.{Inside}
use Rattle.layout.proofs.Contained.{contents-edition, contents-count}
use Rattle.book.proofs.Stages.{first-before, before-length, before-form, form-inside, rows-own}
use Rattle.book.proofs.verdict.Goals as goal

pub returns-in_err-lengths : goal.returns-in_err-lengths
returns-in_err-lengths c =
    let failed = err_from_is_err_and c.from_residual.result c.from_residual.ensures.1 in
    rw (failed.1, failed.2)
    (sym (first-before _ ∙ and_then-refused _ _ _ (before-length _ (sym c.lengths.ensures ∙ c.in_err-lengths.was))))

pub opened-requires : goal.opened-requires
opened-requires c = sym c.lengths.ensures ∙ c.in_ok-lengths.was

pub returns-in_err-head : goal.returns-in_err-head
returns-in_err-head c =
    let failed = err_from_is_err_and c.from_residual-in_err-head.result c.from_residual-in_err-head.ensures.1 in
    rw (failed.1, failed.2) (sym (first-before _ ∙ and_then-refused _ _ _ c.in_err-head.ensures.refused))

pub rows_fault-requires : goal.rows_fault-requires
rows_fault-requires c =
    let b = c.args.book.now in
    let head = c.in_ok-head.ensures in
    subst (Inside b 1) (contents-count b ∙ sym head.rows) (form-inside b (before-form b head.passed))

pub returns : goal.returns
returns c =
    let head = c.in_ok-head.ensures in
    c.rows_fault.ensures
    ∙ rows-own _ _ _ _ (head.edition ∙ sym (contents-edition _)) (head.rows ∙ sym (contents-count _))
    ∙ sym (first-before _ ∙ and_then-next _ _ head.passed)
