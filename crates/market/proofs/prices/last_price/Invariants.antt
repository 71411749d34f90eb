-- `market::prices::last_price` stays inside: no step goes below `from`.
-- Assumes nothing.
use Rattle.std.proofs.Common.{◌+◌, ◌≤◌}
use Rattle.market.proofs.prices.last_price.Given as goal

abbrev pub invariant-loop-price : goal.invariant-loop-price
invariant-loop-price l = l.from + l.step ≤ l.top
