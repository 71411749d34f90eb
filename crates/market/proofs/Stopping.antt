-- The level at which the cleared total stops, by the next price of an offer and what is offered below it and up to it.
--
-- In order: what ends a search for the cleared total; what is offered below a price is no more than what is offered up to it;
-- the total that the curve reaches at the price can be supplied; where it goes past the level, the search goes on over the
-- price; where it stops there, it is the cleared total.
-- Assumes nothing.
use Rattle.std.proofs.Common.{◌≡◌, ℕ, suc, ◌+◌, ◌-◌, ◌<◌, ◌≤◌, min, true, false, sym, refl, ap, ◌∙◌, subst, ap₂, le_trans, le_antisymm, arith, le-leb}
use borrow.Author.Tests.{lt-leb}
use Rattle.laws.proofs.Cases.{by_order}
use Rattle.laws.proofs.Compare.{le-unless}
use Rattle.laws.proofs.Largests.{largest-found}
use Rattle.auction.specs.Offers.{Offers, Demand, Falling, supply, supply_below, level_sum}
use Rattle.auction.specs.Clearing.{cleared_total}
use Rattle.auction.specs.Shares.{level_amount}
use Rattle.auction.proofs.Supply.{supply-mono, supply-split, supply-supply_below, supply_below-supply}
use Rattle.auction.proofs.Total.{supplies, supplies-closed}
use Rattle.levels.specs.inner.Reach.{LevelBetween, stops_there}
use Rattle.levels.specs.inner.Stop.{StopsAt}
use Rattle.levels.specs.declared.level.Level.{Level}
use Rattle.levels.proofs.Reaching.{stops-more, goes-past}
use Rattle.levels.proofs.Stops.{stop-found}
use Rattle.market.specs.inner.Bracket.{Under}
use Rattle.market.specs.declared.bracket.PriceBracket.{PriceBracket}
use Rattle.market.proofs.Narrowing.{supplied-at, under-over}

-- a quantity that can be supplied, while one tenth more cannot, is the cleared total
total-found : (d : Demand) (o : Offers) → Falling d → (x : ℕ) → x ≤ d.last → x ≤ supply o (d.price x)
    → (x < d.last → supply o (d.price (suc x)) ≤ x) → x ≡ cleared_total d o
unfolding cleared_total
total-found d o falling x within supplied past =
    largest-found (supplies d o) d.last x (supplies-closed d o falling) within
    (λ h. le-leb x _ supplied)
    (λ h. lt-leb (suc x) _ (omega (arith, past h)))

pub below-upto : (o : Offers) (price below reach : ℕ) → supply_below o price ≡ below → reach ≡ supply o price → below ≤ reach
below-upto o price below reach e f = omega (arith, supply_below-supply o price)

module _ (d : Demand) (o : Offers) (falling : Falling d) (b : PriceBracket) (u : Under d o b) (price reach : ℕ)
    (below : supply_below o price ≡ b.below) (upto : reach ≡ supply o price)
    (l : Level) (p : LevelBetween d price b.below reach l) where
  reached-supplied : l.total ≤ supply o (d.price l.total)
  reached-supplied =
      by_order l.total b.below
      (λ h. subst (λ (k : ℕ). k ≤ supply o (d.price k)) (le_antisymm p.total.start h) u.supplied)
      (λ h. supplied-at d o price l.total (omega (arith, p.total.end)) (p.total.met h))

  pub reached-all : stops_there l ≡ false → price < 1000000
      → Under d o (record { from = price + 1; below = reach; cap = b.cap; over = b.over })
  reached-all past m =
      let e : l.total ≡ reach = le_antisymm (omega (arith, p.total.end)) (omega (arith, (goes-past l past).0, p.reach)) in
      under-over d o b price reach u.high m upto (omega (arith, p.total.end)) (rw e at reached-supplied)

  module _ (capped : d.price 0 ≤ 1000000) (most : price ≤ 1000000) (stops : stops_there l ≡ true) where
    stop : price < 1000000 → l.total < reach
    stop h = omega (arith, stops-more l stops (omega (arith, p.price)), p.reach)

    highest : reach ≤ l.total → 1000000 ≤ price
    highest h = le-unless 1000000 price (λ m. omega (arith, stop m))

    past-reached : l.total < d.last → supply o (d.price (suc l.total)) ≤ l.total
    unfolding Falling
    past-reached m =
        by_order reach l.total
        (λ h. le_trans (supply-mono o _ price (omega (arith, falling 0 (suc l.total) (omega arith) m, capped, highest h))) (omega arith))
        (λ h. le_trans (supply-supply_below o _ price (p.total.past (omega arith))) (omega (arith, p.total.start)))

    reached-total : l.total ≡ cleared_total d o
    reached-total =
        total-found d o falling l.total (omega (arith, p.total.end)) reached-supplied past-reached

    pub reached-stops : StopsAt o (cleared_total d o) l
    unfolding level_amount
    reached-stops =
        subst (λ (k : ℕ). StopsAt o k l) reached-total
        (record {
          total = refl;
          price = p.price ∙ stop-found o l.total price most (omega (arith, p.total.start)) (λ h. omega (arith, stop h));
          amount = p.amount ∙ amount;
          sum = p.sum ∙ sum;
          reach = p.reach ∙ upto ∙ ap (supply o) (sym p.price);
        })
      where
        sum : reach - b.below ≡ level_sum o l.price
        sum = rw p.price (omega (arith, supply-split o price))

        amount : min (l.total - b.below) (reach - b.below) ≡ level_amount o l.total l.price
        amount = ap₂ (λ (m n : ℕ). min (l.total - m) n) (sym below ∙ ap (supply_below o) (sym p.price)) sum
