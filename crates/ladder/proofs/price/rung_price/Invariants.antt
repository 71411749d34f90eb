-- `rung_price` goes up. The loop's invariant: what is left to go from here leads to the same price.
-- Assumes nothing.
use mathlib.Core.Path.{◌≡◌}
use Prim.Native.Nat.{◌-◌}
use lib.ListN.{length}
use Rattle.ladder.specs.Prices.{rung_price}
use Rattle.ladder.specs.inner.Found.{price_at}
use Rattle.ladder.proofs.price.rung_price.Given as goal

abbrev pub invariant-loop : goal.invariant-loop
invariant-loop l =
    rung_price (price_at l.prices) (length l.prices) l.k l.from
    ≡ rung_price (price_at l.prices) (length l.prices) (l.k - l.counter) l.at
