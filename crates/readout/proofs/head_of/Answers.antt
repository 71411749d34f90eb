-- `head_of` reads block 0 of a book whose form is right.
-- Assumes nothing.
use mathlib.Core.Path.{◌≡◌, ◌∙◌}
use native.Mathlib.Omega.{arith}
use Rattle.values.specs.Refusals.{no_fault}
use Rattle.values.proofs.Firsts.{is_ok-passed}
use Rattle.sections.specs.Blocks.{block_of}
use Rattle.layout.specs.Form.{form_fault}
use Rattle.layout.specs.Read.{contents_of}
use Rattle.layout.proofs.Passing.{form-passed-length}
use Rattle.layout.proofs.Contained.{contents-edition, contents-parameters, contents-count}
use Rattle.readout.proofs.Offered.{head-stated}
use Rattle.readout.proofs.head_of.Goals as goal
use Rattle.readout.proofs.head_of.Goals.{In_ok-ok, After-parameters_in}

-- past the test the form passed
formed : (c : In_ok-ok) → form_fault c.args.book.now ≡ no_fault
formed c = grind (arith, is_ok-passed)

pub edition-requires : goal.edition-requires
edition-requires c = grind (arith, is_ok-passed, form-passed-length)

pub slice_bounds-parameters_in-end : goal.slice_bounds-parameters_in-end
slice_bounds-parameters_in-end c =
    omega (arith, form-passed-length _ (formed (goal.at.slice_bounds-parameters_in-end c).In_ok-ok))

pub offer_count-requires : goal.offer_count-requires
offer_count-requires c = grind (arith, is_ok-passed, form-passed-length)

-- what was read of block 0 are the parameters that the book says
read-own : (c : After-parameters_in)
    → c.parameters_in.result ≡ (contents_of c.args.book.now).parameters
unfolding block_of
read-own c = c.parameters_in.ensures ∙ contents-parameters _

pub returns : goal.returns
returns c =
    let at = goal.at.returns c in
    head-stated _ _ _ _ _ (formed at.In_ok-ok) (c.edition.ensures.0 ∙ contents-edition _)
    (read-own at.After-parameters_in) (c.offer_count.ensures.0 ∙ contents-count _)
