-- `shares::spare::halve` parts the time stamps of the first rows into halves. The loop's invariant: those of the rows passed
-- are parted.
-- Assumes nothing.
use mathlib.Core.Path.{◌≡◌}
use Rattle.laws.specs.Filled.{filled}
use Rattle.shares.specs.inner.Halves.{high_half, low_half}
use Rattle.shares.proofs.spare.halve.Given as goal

abbrev pub invariant-loop-row : goal.invariant-loop-row
invariant-loop-row l = (l.highs ≡ filled (high_half l.stamps) l.row l.initial.highs) × (l.lows ≡ filled (low_half l.stamps) l.row l.initial.lows)
