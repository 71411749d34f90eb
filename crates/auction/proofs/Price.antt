-- The clearing price separates what clears from what does not.
--
-- In order: the lesser of a price and the next price; the price at the margin of a total; the clearing price is the one at
-- the margin of the cleared total, and there is none exactly when nothing clears.
-- Assumes nothing.
use mathlib.Core.Path.{◌≡◌}
use mathlib.Core.Option.{Option, none, some}
use Prim.Native.Nat.{ℕ, ◌≤◌, ◌<◌}
use native.Mathlib.Nat.{le-min, le_of_lt, le_refl, le_trans, ne_of_gt, not-le_of_lt}
use native.Mathlib.Omega.{arith}
use borrow.Author.Tests.{eq-eqb, ne_eqb}
use Rattle.laws.specs.Largest.{lesser}
use Rattle.laws.proofs.Cases.{by_order, cond-true, cond-false}
use Rattle.laws.proofs.Compare.{le-unless}
use Rattle.auction.specs.Offers.{Offers, Demand, Falling, supply, supply_below}
use Rattle.auction.specs.Clearing.{cleared_total, next_price, clearing_price}
use Rattle.auction.specs.Demands.{IsTotal}
use Rattle.auction.proofs.Supply.{supply-mono, supply-supply_below}
use Rattle.auction.proofs.Total.{total-is-largest, supply-past-total}
use Rattle.auction.proofs.NextPrice.{Next, IsNext, next-is, next_under}

lesser-left : (v : ℕ) (a : Option ℕ) → lesser v a ≤ v
lesser-left v none = le_refl v
lesser-left v (some m) = omega arith

-- the lesser of v and the next price: what is offered below it is no more than x
lesser-under : (o : Offers) (x v : ℕ) (a : Option ℕ) → Next o x a → (p : ℕ) → p < lesser v a → supply o p ≤ x
lesser-under o x v none r p h = r p
lesser-under o x v (some m) r p h = next_under o x m p r (omega arith)

-- at each price over it, x is filled before
lesser-over : (o : Offers) (x v : ℕ) (a : Option ℕ) → Next o x a → x ≤ supply o v
    → (p : ℕ) → lesser v a < p → x ≤ supply_below o p
lesser-over o x v none r s p h = le_trans s (supply-supply_below o v p h)
lesser-over o x v (some m) r s p h =
    by_order v m
    (λ g. le_trans s (supply-supply_below o v p (omega arith)))
    (λ g. omega (arith, r.over, supply-supply_below o m p (omega arith)))

-- it is the greatest price up to v below which no more than x is offered
lesser-greatest : (o : Offers) (x v : ℕ) (a : Option ℕ) → Next o x a
    → (p : ℕ) → p ≤ v → ((q : ℕ) → q < p → supply o q ≤ x) → p ≤ lesser v a
lesser-greatest o x v none r p l h = l
lesser-greatest o x v (some m) r p l h =
    by_order p m (λ g. le-min l g) (λ g. absurd (not-le_of_lt r.over (h m g)))

-- the lesser of the curve price at x and the next price: for the cleared total, the clearing price if something clears
unfoldable pub margin_price : Demand → Offers → ℕ → ℕ
margin_price d o x = lesser (d.price x) (next_price o x)

-- the price p stands at the margin of the total x: it separates what clears from what does not
pub record Margin (d : Demand) (o : Offers) (x p : ℕ) : Type 0 where
  -- all that is offered at a price under p fits into x
  pub under : (q : ℕ) → q < p → supply o q ≤ x
  -- x is filled before a price over p
  pub over : (q : ℕ) → p < q → x ≤ supply_below o q
  -- up to x the curve does not fall below p
  pub up_to : (k : ℕ) → k ≤ x → p ≤ d.price k
  -- past x the curve does not rise over p
  pub past : (k : ℕ) → x < k → k ≤ d.last → d.price k ≤ p

-- the price at the margin is the greatest, up to the curve price at x, below which no more than x is offered
pub margin_price-greatest : (d : Demand) (o : Offers) (x p : ℕ)
    → p ≤ d.price x → ((q : ℕ) → q < p → supply o q ≤ x) → p ≤ margin_price d o x
unfolding margin_price
margin_price-greatest d o x p = lesser-greatest o x (d.price x) (next_price o x) (next-is o x) p

-- the largest quantity that can be supplied has a price at its margin
pub margin_price-margin : (d : Demand) (o : Offers) (x : ℕ) → Falling d → IsTotal d o x → Margin d o x (margin_price d o x)
unfolding margin_price Falling
margin_price-margin d o x falling t =
    let v = d.price x in
    let a = next_price o x in
    let r = next-is o x in
    record {
      under = lesser-under o x v a r;
      over = lesser-over o x v a r t.supplied;
      up_to = λ k l. le_trans (lesser-left v a) (falling k x l t.within);
      past = λ k h l.
          lesser-greatest o x v a r (d.price k) (falling x k (le_of_lt h) l)
          (λ q g. le_trans (supply-mono o q (d.price k) (le_of_lt g)) (supply-past-total d o x falling t k h l));
    }

-- the price at the margin is no higher than the next price
pub margin-next : (d : Demand) (o : Offers) (x p m : ℕ) → Margin d o x p → IsNext o x m → p ≤ m
margin-next d o x p m s r = le-unless p m (λ h. not-le_of_lt r.over (s.under m h))

-- when nothing clears there is no price
pub price-none : (d : Demand) (o : Offers) → cleared_total d o ≡ 0 → clearing_price d o ≡ none
unfolding clearing_price
price-none d o e = cond-true _ none _ (eq-eqb _ 0 e)

-- when something clears there is a price, the one at the margin
pub price-some : (d : Demand) (o : Offers) → 0 < cleared_total d o
    → clearing_price d o ≡ some (margin_price d o (cleared_total d o))
unfolding clearing_price margin_price
price-some d o l = cond-false _ none _ (ne_eqb (cleared_total d o) 0 (ne_of_gt l))

-- there is no price only when nothing clears
pub price-none-only : (d : Demand) (o : Offers) → clearing_price d o ≡ none → cleared_total d o ≡ 0
price-none-only d o e =
    by_order (cleared_total d o) 0
    (λ h. omega arith)
    (λ h. let z : ◌≡◌ {A = ℕ} 0 1 = cc (price-some d o h) in absurd (omega arith))

-- there is a price only when something clears
pub price-some-only : (d : Demand) (o : Offers) (p : ℕ) → clearing_price d o ≡ some p → 0 < cleared_total d o
price-some-only d o p e =
    by_order (cleared_total d o) 0
    (λ h. let z : ◌≡◌ {A = ℕ} 0 1 = cc (price-none d o (omega arith)) in absurd (omega arith))
    (λ h. h)

-- a clearing price is the price at the margin of the cleared total
pub price-margin_price : (d : Demand) (o : Offers) (p : ℕ) → clearing_price d o ≡ some p
    → margin_price d o (cleared_total d o) ≡ p
price-margin_price d o p e = cc (price-some d o (price-some-only d o p e))

-- the clearing price stands at the margin of the cleared total
pub price-margin : (d : Demand) (o : Offers) (p : ℕ) → Falling d
    → clearing_price d o ≡ some p → Margin d o (cleared_total d o) p
price-margin d o p falling e =
    rw (← price-margin_price d o p e) (margin_price-margin d o (cleared_total d o) falling (total-is-largest d o))
