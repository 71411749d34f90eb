-- `offers_section` reads the number of offers and the edition in block 0; the rest of the section is fixed.
-- Assumes nothing.
use Rattle.sections.specs.Blocks.{block_of}
use Rattle.layout.proofs.offers.offers_section.Goals as goal

pub returns : goal.returns
unfolding block_of
returns c =
    simp (
      c.offers_last.ensures,
      c.edition_in.ensures.0,
      c.offers_in.ensures.0,
    )
