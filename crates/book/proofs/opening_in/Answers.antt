-- `opening_in` reads block 0.
-- Assumes nothing.
use mathlib.Core.Path.{◌∙◌}
use native.Mathlib.Omega.{arith}
use Rattle.sections.specs.Blocks.{block_of}
use Rattle.layout.specs.Read.{contents_of}
use Rattle.layout.proofs.Contained.{contents-count}
use Rattle.layout.proofs.Holding.{length-holds}
use Rattle.book.proofs.opening_in.Goals as goal

pub slice_bounds-parameters_in-end : goal.slice_bounds-parameters_in-end
slice_bounds-parameters_in-end c = omega (arith, (length-holds _ c.requires).least)

pub edition-requires : goal.edition-requires
edition-requires c = (length-holds _ c.requires).least

pub offer_count-requires : goal.offer_count-requires
offer_count-requires c = (length-holds _ c.requires).least

pub returns : goal.returns
unfolding contents_of block_of
returns c =
    record {
      edition = c.edition.ensures.0;
      parameters = c.parameters_in.ensures;
      rows = c.offer_count.ensures.0 ∙ contents-count _;
    }
