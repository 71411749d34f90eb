-- `before_rows` is the first fault before the rows: that of the blocks, and then that of the parameters, 4 before 5.
-- Assumes nothing.
use mathlib.Core.Path.{◌≡◌, sym, ap, ap₂, ◌∙◌}
use native.Mathlib.Omega.{arith}
use Rattle.std.proofs.lemmas.Result.{err_from_is_err_and}
use Rattle.values.specs.Refusals.{and_then}
use Rattle.values.proofs.Firsts.{and-tests}
use Rattle.limits.specs.Parameters.{range_fault}
use Rattle.limits.specs.Given.{parameters_fault}
use Rattle.sections.specs.Blocks.{block_of}
use Rattle.layout.specs.Read.{contents_of}
use Rattle.layout.proofs.Holding.{length-holds}
use Rattle.book.proofs.Stages.{form-blocks, before-form-refused, before-formed}
use Rattle.book.proofs.before_rows.Goals as goal
use Rattle.book.proofs.before_rows.Goals.{After-and}

pub slice_bounds-head-end : goal.slice_bounds-head-end
slice_bounds-head-end c = omega (arith, (length-holds _ c.requires).least)

pub returns-in_err-blocks_fault : goal.returns-in_err-blocks_fault
returns-in_err-blocks_fault c =
    let failed = err_from_is_err_and c.from_residual.result c.from_residual.ensures.1 in
    rw (failed.1, failed.2)
    (sym (before-form-refused _ (form-blocks _ c.requires ∙ sym c.blocks_fault.ensures ∙ c.in_err-blocks_fault.was)))

-- what the calls ensure, of the parameters that the book says
tested : (c : After-and) → c.and.result ≡ parameters_fault (contents_of c.args.book.now).parameters
unfolding parameters_fault contents_of block_of
tested c =
    c.and.ensures
    ∙ and-tests c.missing_in.result c.parameter_fault.result
    ∙ ap₂ and_then c.missing_in.ensures (c.parameter_fault.ensures ∙ ap range_fault c.parameters_in.ensures)

pub returns : goal.returns
returns c =
    tested (goal.at.returns c).After-and
    ∙ sym (before-formed _ (form-blocks _ c.requires ∙ sym c.blocks_fault.ensures ∙ c.in_ok-blocks_fault.was))
