-- What the offers clear, all together and at each price.
--
-- In order: what clears divides a total by levels; a level that is whole, and one that receives nothing; all together;
-- what clears of the cleared total clears by price and is the best choice.
-- Assumes nothing.
use mathlib.Core.Path.{◌≡◌}
use Prim.Native.Nat.{ℕ, ◌≤◌, ◌<◌}
use Rattle.laws.specs.Sum.{sum_to}
use Rattle.auction.specs.Offers.{Offers, Demand, Proper, Falling, level_sum}
use Rattle.auction.specs.Clearing.{cleared_total}
use Rattle.auction.specs.Shares.{level_amount, cleared}
use Rattle.auction.specs.Surplus.{total}
use Rattle.auction.specs.Demands.{ByPrice, Best}
use Rattle.auction.proofs.ByLevel.{ByLevel, by_level-total, by_level-whole, by_level-nothing}
use Rattle.auction.proofs.Best.{by_level-by_price, by_level-best}
use Rattle.auction.proofs.ShareLaws.{share-within, shares-add-up}

module _ (o : Offers) (x : ℕ) (proper : Proper o) where
  -- what clears divides the total by levels
  pub cleared-by_level : ByLevel o x (cleared o x)
  cleared-by_level = record { within = share-within o x proper; level = shares-add-up o x proper }

  -- in a level that is whole, an offer clears its quantity
  pub whole-level : (i : ℕ) → i < o.count
      → level_amount o x (o.price i) ≡ level_sum o (o.price i) → cleared o x i ≡ o.quantity i
  whole-level = by_level-whole o x (cleared o x) cleared-by_level

  -- in a level that receives nothing, an offer clears nothing
  pub empty-level : (i : ℕ) → i < o.count → level_amount o x (o.price i) ≡ 0 → cleared o x i ≡ 0
  empty-level = by_level-nothing o x (cleared o x) cleared-by_level

  -- all offers together clear the total, where so much is offered
  pub cleared-adds-up : x ≤ sum_to o.quantity o.count → total o (cleared o x) ≡ x
  cleared-adds-up = by_level-total o x (cleared o x) cleared-by_level

module _ (d : Demand) (o : Offers) (falling : Falling d) (proper : Proper o) where
  -- of the cleared total, offers under the clearing price clear in full, and those over it nothing
  pub cleared-by_price : ByPrice d o (cleared o (cleared_total d o))
  cleared-by_price = by_level-by_price d o _ falling (cleared-by_level o (cleared_total d o) proper)

  -- and no other choice of amounts is better
  pub cleared-best : Best d o (cleared o (cleared_total d o))
  cleared-best = by_level-best d o _ falling (cleared-by_level o (cleared_total d o) proper)
