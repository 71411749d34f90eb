-- `settle::committed_of` meets its contract, case by case.
-- Assumes nothing.
use mathlib.Core.Path.{◌∙◌}
use native.Mathlib.Omega.{arith}
use Rattle.settle.proofs.Commits.{from_nothing, from_some}
use Rattle.settle.proofs.committed_of.Goals as goal

pub returns-then-cleared-eq0 : goal.returns-then-cleared-eq0
returns-then-cleared-eq0 c = (from_nothing _ _ c.if-cleared-eq0.true, omega arith)

pub returns-else-cleared-eq0 : goal.returns-else-cleared-eq0
returns-else-cleared-eq0 c = (c.max.ensures ∙ from_some _ _ c.if-cleared-eq0.false, omega arith)
