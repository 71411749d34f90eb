-- `u32_at` reads four bytes, the lowest first.
-- Assumes nothing.
use borrow.Author.Rules.{rules}
use Rattle.block.specs.Bytes.{u16_at, u32_at}
use Rattle.block.proofs.bytes.u32_at.Goals as goal

pub returns : goal.returns
unfolding u32_at u16_at
returns c = search rules
