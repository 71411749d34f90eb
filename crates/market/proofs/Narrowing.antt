-- Brackets of prices.
--
-- In order: the whole range of prices; a quantity that is offered at a price, and that the curve buys at it, can be supplied;
-- the bracket over such a price; below the next price of an offer no more is offered than below the bracket, so that it can be
-- drawn in.
-- Assumes nothing.
use Rattle.std.proofs.Common.{◌≡◌, ℕ, ◌+◌, ◌<◌, ◌≤◌, ltb, List, sym, ◌∙◌, le_trans, add-one, arith, le-ltb, lt-ltb}
use Rattle.laws.proofs.Cases.{by_order}
use Rattle.laws.proofs.Where.{sum_where-same}
use Rattle.auction.specs.Offers.{Offers, Demand, supply, supply_below}
use Rattle.auction.proofs.Supply.{supply-mono, supply_below-zero, supply_below-suc}
use Rattle.levels.specs.inner.Rows.{listed}
use Rattle.market.specs.inner.Bracket.{Under, NoneBefore, DrawnIn}
use Rattle.market.specs.declared.bracket.PriceBracket.{PriceBracket}

-- below the price 0 nothing is offered, and nothing can be supplied
pub under_whole : (d : Demand) (o : Offers) (cap over : ℕ) → cap ≤ 1000000
    → Under d o (record { from = 0; below = 0; cap = cap; over = over })
under_whole d o cap over l =
    record {
      low = omega arith;
      high = l;
      below = sym (supply_below-zero o);
      within = omega arith;
      supplied = omega arith;
    }

-- a quantity that is offered at a price or below, where the curve asks no less, can be supplied
pub supplied-at : (d : Demand) (o : Offers) (price s : ℕ) → s ≤ supply o price → price ≤ d.price s
    → s ≤ supply o (d.price s)
supplied-at d o price s l h = le_trans l (supply-mono o price (d.price s) h)

-- over a price at which all that is offered can be supplied
pub under-over : (d : Demand) (o : Offers) (b : PriceBracket) (price s : ℕ) → b.cap ≤ 1000000 → price < 1000000
    → s ≡ supply o price → s ≤ d.last → s ≤ supply o (d.price s)
    → Under d o (record { from = price + 1; below = s; cap = b.cap; over = b.over })
under-over d o b price s h l e w m =
    record { low = omega arith; high = h; below = rw (add-one, supply_below-suc) e; within = w; supplied = m }

-- where no offer is priced from one price up to another, no more is offered below the other
below-clear : (o : Offers) (from to : ℕ) → from ≤ to
    → ((i : ℕ) → i < o.count → from ≤ o.price i → to ≤ o.price i) → supply_below o to ≡ supply_below o from
unfolding supply_below
below-clear o from to l none = sum_where-same _ _ o.quantity o.count same
  where
    same : (i : ℕ) → i < o.count → ltb (o.price i) to ≡ ltb (o.price i) from
    same i h =
        by_order from (o.price i)
        (λ k. le-ltb _ to (none i h k) ∙ sym (le-ltb _ from k))
        (λ k. lt-ltb _ to (omega arith) ∙ sym (lt-ltb _ from k))

pub below_next : (d : Demand) (prices quantities : List ℕ) (n : ℕ) (b : PriceBracket) (next : ℕ)
    → Under d (listed prices quantities n) b → NoneBefore prices n b.from next
    → supply_below (listed prices quantities n) next ≡ b.below
below_next d prices quantities n b next u m =
    below-clear (listed prices quantities n) b.from next m.low m.none ∙ sym u.below

-- a bracket drawn in to the offers inside it
pub under-drawn-in : (d : Demand) (prices quantities : List ℕ) (n : ℕ) (b r : PriceBracket)
    → Under d (listed prices quantities n) b → DrawnIn prices n b r → Under d (listed prices quantities n) r
under-drawn-in d prices quantities n b r u i =
    record {
      low = i.none.high;
      high = le_trans i.less u.high;
      below = i.below ∙ sym (below_next d prices quantities n b r.from u i.none);
      within = rw i.below u.within;
      supplied = rw i.below u.supplied;
    }
