-- `before_in` counts who stands before a contender. The loop's invariant: those of the rows passed.
-- Assumes nothing.
use mathlib.Core.Path.{◌≡◌}
use mathlib.Core.Bool.{cond, ◌&&◌}
use Prim.Native.Nat.{ℕ, ◌≤◌}
use lib.Dec.{eqb}
use Rattle.laws.specs.Sum.{sum_to}
use Rattle.auction.specs.Offers.{Offers}
use Rattle.columns.specs.inner.Sides.{rows_in, offers_in}
use Rattle.reasons.specs.declared.share.Received.{Received}
use Rattle.turns.specs.inner.Contending.{contender_in, ahead_of}
use Rattle.turns.specs.declared.order.Contender.{Contender}
use Rattle.turns.proofs.standing.before_in.Given as goal

abbrev pub counts : Offers → ℕ → Received → Contender → ℕ → ℕ
counts o p l own j = cond (eqb (o.price j) p && ahead_of (contender_in o j l) own) 1 0

abbrev pub invariant-loop-row : goal.invariant-loop-row
invariant-loop-row l =
    (l.row ≤ rows_in l.rows) × (l.count ≡ sum_to (counts (offers_in l.rows) l.price l.level l.own) l.row) × (l.count ≤ l.row)
