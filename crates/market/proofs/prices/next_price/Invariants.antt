-- `market::prices::next_price`: no price lies from `from` up to it. The loop's invariant: none of the rows passed.
-- Assumes nothing.
use Rattle.std.proofs.Common.{ℕ, ◌+◌, ◌<◌, ◌≤◌, slice_index}
use Rattle.market.proofs.prices.next_price.Given as goal

abbrev pub invariant-loop-price : goal.invariant-loop-price
invariant-loop-price l =
    (l.from + l.step ≤ 1000000)
    × ((i : ℕ) → i < l.price-index → l.from ≤ slice_index l.prices i → l.from + l.step ≤ slice_index l.prices i)
