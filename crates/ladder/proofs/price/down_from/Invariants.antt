-- `down_from` goes down. The loop's invariant: what is left to go from here leads to the same price.
-- Assumes nothing.
use mathlib.Core.Path.{◌≡◌}
use Prim.Native.Nat.{◌-◌}
use lib.ListN.{length}
use Rattle.ladder.specs.Prices.{down}
use Rattle.ladder.specs.inner.Found.{price_at}
use Rattle.ladder.proofs.price.down_from.Given as goal

abbrev pub invariant-loop : goal.invariant-loop
invariant-loop l =
    down (price_at l.prices) (length l.prices) l.k l.limit ≡ down (price_at l.prices) (length l.prices) (l.k - l.counter) l.at
