-- `parts::parts` writes each row's part. The loop's invariant: the rows passed hold their parts.
-- Assumes nothing.
use mathlib.Core.Path.{◌≡◌}
use Rattle.laws.specs.Filled.{filled}
use Rattle.parts.specs.inner.Parts.{row_part}
use Rattle.parts.proofs.parts.Given as goal

abbrev pub invariant-loop-row : goal.invariant-loop-row
invariant-loop-row l = l.out ≡ filled (row_part l.level l.asks.prices.now l.asks.quantities.now) l.row l.initial.out
