-- `u16_at` reads two bytes, the low one first.
-- Assumes nothing.
use borrow.Author.Rules.{rules}
use Rattle.block.specs.Bytes.{u16_at}
use Rattle.block.proofs.bytes.u16_at.Goals as goal

pub returns : goal.returns
unfolding u16_at
returns c = search rules
