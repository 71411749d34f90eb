-- The price levels around the one at which a total x stops.
-- Assumes nothing.
use Rattle.std.specs.Prelude.{ℕ, suc, ◌-◌, Some, None}
use Rattle.laws.specs.Sum.{sum_to}
use Rattle.auction.specs.Offers.{Offers, supply, supply_below, level_sum}
use Rattle.auction.specs.Shares.{level_amount}
use Rattle.levels.specs.Stop.{stop_level}
use Rattle.ladder.specs.Prices.{down, rung_price}
use Rattle.ladder.specs.declared.rung.Rung.{Rung}
use Rattle.ladder.specs.declared.rung.Ladder.{Ladder}
use Rattle.std.specs.declared.option.Option.{Option}

-- a rung, where there are so many prices
abbrev pub RungAt : Type 0
RungAt = Option Rung

module _ (o : Offers) (x : ℕ) where
  -- the level at a price: what is offered at it, what it receives of x, and what is offered at all higher prices
  unfoldable pub rung_of : ℕ → Rung
  rung_of p =
      record {
        price = p;
        offered = level_sum o p;
        receives = level_amount o x p;
        higher = sum_to o.quantity o.count - supply o p;
      }

  -- the same of a price that may not be there
  abbrev pub as_rung : Option ℕ → RungAt
  as_rung None = None
  as_rung (Some p) = Some (rung_of p)

  -- the k-th level from a price on
  unfoldable pub rung_at : ℕ → ℕ → RungAt
  rung_at k from = as_rung (rung_price o.price o.count k from)

  -- the lowest price of the ladder: six levels lie at or under the one at which x stops, as far as there are prices
  unfoldable pub ladder_from : ℕ
  ladder_from = down o.price o.count 6 (suc (stop_level o x))

  -- what is offered below the ladder, and its rung k
  unfoldable pub ladder_at : ℕ → Ladder
  ladder_at k = record { lower = supply_below o ladder_from; rung = rung_at k ladder_from }
