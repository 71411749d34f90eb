-- `edition` reads the number in block 0.
-- Assumes nothing.
use borrow.Author.Rules.{rules}
use Rattle.sections.specs.Blocks.{block_of}
use Rattle.layout.proofs.reader.edition.Goals as goal

pub returns : goal.returns
unfolding block_of
returns c = search rules
