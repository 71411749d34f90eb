-- `contents` reads block 0 of a book that nothing refuses.
-- Assumes nothing.
use mathlib.Core.Path.{◌≡◌, sym, ◌∙◌}
use native.Mathlib.Omega.{arith}
use Rattle.sections.specs.Blocks.{block_of}
use Rattle.layout.specs.Read.{contents_of}
use Rattle.layout.proofs.Contained.{contents-edition, contents-parameters, contents-count}
use Rattle.listing.specs.Listed.{read_fault}
use Rattle.listing.proofs.Listings.{passed-long, contents-refused, contents-passed}
use Rattle.listing.proofs.contents.Goals as goal
use Rattle.listing.proofs.contents.Goals.{After-parameters_in, In_default}
use Rattle.values.specs.Refusals.{no_fault}

pub returns-in-Err : goal.returns-in-Err
returns-in-Err c =
    c.contents_refused.ensures
    ∙ contents-refused _ _ _ (sym c.read_fault.ensures ∙ c.in-Err.is)

-- past the test nothing refused
passed : (c : In_default)
    → let a = c.args in read_fault a.book.now a.entries ≡ no_fault
passed c = sym c.read_fault.ensures ∙ c.in_default.is

pub edition-requires : goal.edition-requires
edition-requires c = passed-long _ _ (passed (goal.at.edition-requires c).In_default)

pub slice_bounds-parameters_in-end : goal.slice_bounds-parameters_in-end
slice_bounds-parameters_in-end c =
    omega (arith, passed-long _ _ (passed (goal.at.slice_bounds-parameters_in-end c).In_default))

-- what was read of block 0 are the book's parameters
read-own : (c : After-parameters_in)
    → c.parameters_in.result ≡ (contents_of c.args.book.now).parameters
unfolding block_of
read-own c = c.parameters_in.ensures ∙ contents-parameters _

pub offer_count-requires : goal.offer_count-requires
offer_count-requires c = passed-long _ _ (passed (goal.at.offer_count-requires c).In_default)

pub returns : goal.returns
returns c =
    let at = goal.at.returns c in
    c.contents_out.ensures
    ∙ contents-passed _ _ (passed at.In_default) _ _ _
    (c.edition.ensures.0 ∙ contents-edition _)
    (read-own at.After-parameters_in)
    (c.offer_count.ensures.0 ∙ contents-count _)
