-- The price by the level at which the cleared total stops is the clearing price.
--
-- In order: a level that has no more than x takes everything that is offered; the level's price is the next price; so the
-- two definitions of the price agree.
-- Assumes nothing.
use mathlib.Core.Path.{◌≡◌, refl, sym, ap, ap₂, subst, ◌∙◌}
use mathlib.Core.Bool.{Bool, true, false, cond}
use mathlib.Core.Option.{Option, none, some}
use Prim.Native.Nat.{ℕ, suc, ◌≤◌, ◌<◌}
use native.Mathlib.Omega.{arith}
use lib.Dec.{eqb}
use borrow.Author.Tests.{le-leb, lt-ltb, le-ltb}
use Rattle.std.specs.Prelude.{None}
use Rattle.laws.specs.Sum.{sum_to}
use Rattle.laws.specs.Largest.{lesser}
use Rattle.laws.proofs.Cases.{by_order}
use Rattle.laws.proofs.Where.{sum_where-every}
use Rattle.laws.proofs.Largests.{largest-is}
use Rattle.auction.specs.Offers.{Offers, Demand, supply, supply_below}
use Rattle.auction.specs.Clearing.{cleared_total, next_price, clearing_price}
use Rattle.auction.proofs.Supply.{supply-mono, supply_below-suc}
use Rattle.auction.proofs.NextPrice.{next-found, next-absent}
use Rattle.levels.specs.Stop.{stop_level}
use Rattle.levels.specs.inner.Stop.{StopsAt}
use Rattle.pricing.specs.Price.{as_price}
use Rattle.pricing.specs.inner.Price.{level_price, price_at}
use Rattle.levels.specs.declared.level.Level.{Level}
use Rattle.levels.proofs.Stops.{stops, stop-below}

-- no offer is dearer than 1,000,000
abbrev pub Cheap : Offers → Type 0
Cheap o = (i : ℕ) → i < o.count → o.price i ≤ 1000000

-- at 1,000,000 everything is offered
supply-most : (o : Offers) → Cheap o → supply o 1000000 ≡ sum_to o.quantity o.count
unfolding supply
supply-most o cheap = sum_where-every _ o.quantity o.count (λ i l. le-leb (o.price i) 1000000 (cheap i l))

-- a price under 1,000,000 at or below which no more than x is offered is not where x stops
past_stop : (o : Offers) (x m : ℕ) → m ≡ stop_level o x → m < 1000000 → x < supply o m
unfolding stop_level
past_stop o x m e l =
    by_order (supply o m) x
    (λ h. absurd
    (omega (
      arith,
      (largest-is (stops o x) 1000000).past (suc m) l (le-leb (supply_below o (suc m)) x (omega (arith, supply_below-suc o m))),
    )))
    (λ h. h)

-- the level's price is the lowest price at or below which more than x is offered, if there is one
next_level : (o : Offers) (x : ℕ) (l : Level) → Cheap o → StopsAt o x l → next_price o x ≡ level_price l
next_level o x l cheap s =
    by_order l.reach l.total
    (λ h. next-absent o x (all-taken h) ∙ sym (ap (λ t. cond t (some l.price) none) (le-ltb l.total l.reach h)))
    (λ h. next-found o x l.price below (over h) ∙ sym (ap (λ t. cond t (some l.price) none) (lt-ltb l.total l.reach h)))
  where
    below : supply_below o l.price ≤ x
    below = subst (λ (p : ℕ). supply_below o p ≤ x) (sym s.price) (stop-below o x)

    over : l.total < l.reach → x < supply o l.price
    over h = omega (arith, s.total, s.reach)

    all-taken : l.reach ≤ l.total → sum_to o.quantity o.count ≤ x
    all-taken h =
        by_order 1000000 l.price
        (λ g. omega (arith, supply-most o cheap, supply-mono o 1000000 l.price g, s.total, s.reach))
        (λ g. absurd (omega (arith, past_stop o x l.price s.price g, s.total, s.reach)))

-- to choose between no price and one is the same before and after they are said as the code says them
as_price-cond : (t : Bool) (p : ℕ) → cond t None (as_price (some p)) ≡ as_price (cond t none (some p))
as_price-cond true p = refl
as_price-cond false p = refl

-- the price by the level is the clearing price
pub price-agrees : (d : Demand) (o : Offers) (l : Level) → Cheap o → StopsAt o (cleared_total d o) l
    → price_at d l ≡ as_price (clearing_price d o)
unfolding price_at clearing_price
price-agrees d o l cheap s =
    ap₂ (λ (t : ℕ) (next : Option ℕ). cond (eqb t 0) None (as_price (some (lesser (d.price t) next))))
    s.total (sym (next_level o _ l cheap s))
    ∙ as_price-cond (eqb (cleared_total d o) 0) _
