-- Where a total stops: the levels under it are whole, and those over it receive nothing.
--
-- In order: what is offered at a price under the stop, and below a price over it; a level under it, a level over it.
-- Assumes nothing.
use mathlib.Core.Path.{◌≡◌}
use Prim.Native.Nat.{ℕ, ◌≤◌, ◌<◌}
use native.Mathlib.Nat.{le_trans, le_of_lt, not-le_of_lt}
use borrow.Author.Tests.{le-leb}
use Rattle.laws.proofs.Compare.{le-unless}
use Rattle.laws.proofs.Largests.{largest-is}
use Rattle.auction.specs.Offers.{Offers, supply, supply_below, level_sum}
use Rattle.auction.specs.Shares.{level_amount}
use Rattle.auction.proofs.Supply.{supply-supply_below}
use Rattle.auction.proofs.Levels.{level-whole, level-empty}
use Rattle.levels.specs.Stop.{stop_level}
use Rattle.levels.proofs.Stops.{stops, stop-below}

module _ (o : Offers) (x p : ℕ) where
  -- no more than x is offered at a price under the stop
  stop-under : p < stop_level o x → supply o p ≤ x
  stop-under h = le_trans (supply-supply_below o p (stop_level o x) h) (stop-below o x)

  -- at least x is offered below a price over the stop
  stop-over : stop_level o x < p → p ≤ 1000000 → x ≤ supply_below o p
  unfolding stop_level
  stop-over h top =
      le-unless x (supply_below o p)
      (λ k. not-le_of_lt h ((largest-is (stops o x) 1000000).past p top (le-leb (supply_below o p) x (le_of_lt k))))

  -- a level under the stop is whole
  pub level-under-stop : p < stop_level o x → level_amount o x p ≡ level_sum o p
  level-under-stop h = level-whole o x p (stop-under h)

  -- a level over the stop receives nothing
  pub level-over-stop : stop_level o x < p → p ≤ 1000000 → level_amount o x p ≡ 0
  level-over-stop h top = level-empty o x p (stop-over h top)
