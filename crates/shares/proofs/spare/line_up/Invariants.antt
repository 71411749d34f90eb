-- `shares::spare::line_up` writes each row's key and standing. The loop's invariant: the rows passed hold theirs.
-- Assumes nothing.
use mathlib.Core.Path.{◌≡◌}
use Rattle.laws.specs.Filled.{filled}
use Rattle.parts.specs.inner.Parts.{row_key, row_standing}
use Rattle.shares.proofs.spare.line_up.Given as goal

abbrev pub invariant-loop-row : goal.invariant-loop-row
invariant-loop-row l =
    (l.keys ≡ filled (row_key l.level l.asks.prices.now l.asks.quantities.now) l.row l.initial.keys)
    × (l.standings ≡ filled (row_standing l.level l.asks.prices.now) l.row l.initial.standings)
