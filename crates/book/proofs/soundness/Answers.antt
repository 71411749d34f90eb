-- `soundness` is the first fault by which a book is not sound: as `verdict`, and without 4 and 6.
-- Assumes nothing.
use mathlib.Core.Path.{◌≡◌, sym, ap, ◌∙◌}
use native.Mathlib.Omega.{arith}
use Rattle.std.proofs.lemmas.Result.{err_from_is_err_and}
use Rattle.values.specs.Refusals.{no_fault}
use Rattle.values.proofs.Firsts.{and_then-next, and_then-refused}
use Rattle.limits.specs.Parameters.{range_fault}
use Rattle.sections.specs.Blocks.{block_of}
use Rattle.layout.specs.Form.{form_fault}
use Rattle.layout.specs.Read.{contents_of}
use Rattle.layout.proofs.Passing.{form-passed-length}
use Rattle.book.proofs.Stages.{sound-form-refused, sound-formed, form-inside, rows-own}
use Rattle.book.proofs.soundness.Goals as goal
use Rattle.book.proofs.soundness.Goals.{In_ok-form, After-parameter_fault}

pub returns-in_err-form : goal.returns-in_err-form
returns-in_err-form c =
    let failed = err_from_is_err_and c.from_residual.result c.from_residual.ensures.1 in
    rw (failed.1, failed.2) (sym (sound-form-refused _ (sym c.form.ensures ∙ c.in_err-form.was)))

-- past the first test the form passed
formed : (c : In_ok-form) → form_fault c.args.book.now ≡ no_fault
formed c = sym c.form.ensures ∙ c.in_ok-form.was

pub slice_bounds-parameters_in-end : goal.slice_bounds-parameters_in-end
slice_bounds-parameters_in-end c =
    omega (arith, form-passed-length _ (formed (goal.at.slice_bounds-parameters_in-end c).In_ok-form))

-- what the calls ensure, of the book's parameters
range-told : (c : After-parameter_fault) → c.parameter_fault.result ≡ range_fault (contents_of c.args.book.now).parameters
unfolding contents_of block_of
range-told c = c.parameter_fault.ensures ∙ ap range_fault c.parameters_in.ensures

pub returns-in_err-parameter_fault : goal.returns-in_err-parameter_fault
returns-in_err-parameter_fault c =
    let at = goal.at.returns-in_err-parameter_fault c in
    let failed = err_from_is_err_and c.from_residual-in_err-parameter_fault.result c.from_residual-in_err-parameter_fault.ensures.1 in
    rw (failed.1, failed.2)
    (sym (sound-formed _ (formed at.In_ok-form)
    ∙ and_then-refused _ _ _ (sym (range-told at.After-parameter_fault) ∙ c.in_err-parameter_fault.was)))

pub edition-requires : goal.edition-requires
edition-requires c = form-passed-length _ (formed (goal.at.edition-requires c).In_ok-form)

pub offer_count-requires : goal.offer_count-requires
offer_count-requires c = form-passed-length _ (formed (goal.at.offer_count-requires c).In_ok-form)

pub rows_fault-requires : goal.rows_fault-requires
rows_fault-requires c = rw c.offer_count.ensures.0 (form-inside _ (formed (goal.at.rows_fault-requires c).In_ok-form))

pub returns : goal.returns
returns c =
    let at = goal.at.returns c in
    c.rows_fault.ensures
    ∙ rows-own _ _ _ _ c.edition.ensures.0 c.offer_count.ensures.0
    ∙ sym
    (sound-formed _ (formed at.In_ok-form)
    ∙ and_then-next _ _ (sym (range-told at.After-parameter_fault) ∙ c.in_ok-parameter_fault.was))
