-- `levels::supply::taken` meets its contract: the test picks the case.
-- Assumes nothing.
use native.Mathlib.Omega.{arith}
use borrow.Author.Tests.{le-leb, lt-leb}
use Rattle.levels.proofs.supply.taken.Goals as goal

pub returns-then-price-limit : goal.returns-then-price-limit
returns-then-price-limit c = (simp (le-leb _ _ c.if-price-limit.true), omega arith)

pub returns-else-price-limit : goal.returns-else-price-limit
returns-else-price-limit c = (simp (lt-leb _ _ c.if-price-limit.false), omega arith)
