-- `some_rows_fault` is the rows' first fault: the first by 6, 7 or 10, unless a resource number repeats before it.
-- Assumes nothing.
use borrow.Author.Rules.{rules}
use Rattle.reading.proofs.Tests.{tested-within, tested-rows}
use Rattle.reading.proofs.some_rows_fault.Goals as goal

pub with_repeats-requires : goal.with_repeats-requires
with_repeats-requires c = tested-within _ _ _ _ c.values_tested-found.ensures (search rules)

pub returns : goal.returns
returns c = tested-rows _ _ _ _ c.values_tested-found.ensures (search rules) _ c.with_repeats.ensures
