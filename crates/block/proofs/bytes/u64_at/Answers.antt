-- `u64_at` reads two numbers of 32 bits, the low one first.
-- Assumes nothing.
use borrow.Author.Rules.{rules}
use Rattle.block.specs.Bytes.{u64_at}
use Rattle.block.proofs.bytes.u64_at.Goals as goal

pub returns : goal.returns
unfolding u64_at
returns c = search rules
