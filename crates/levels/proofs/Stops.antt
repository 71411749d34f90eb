-- The level at which a total stops. Its price, `stop_level`, is the largest that passes a test: no more than x is offered strictly
-- below it.
--
-- In order: the test; what is offered strictly below a price; the test is closed downward; so no more than x is offered
-- strictly below the level at which x stops; a price that passes while the next one fails is that level; there is one
-- level at which x stops.
-- Assumes nothing.
use mathlib.Core.Path.{◌≡◌, sym, ap, ◌∙◌}
use mathlib.Core.Bool.{Bool}
use Prim.Native.Nat.{ℕ, suc, ◌-◌, ◌≤◌, ◌<◌}
use native.Mathlib.Omega.{arith}
use lib.Dec.{leb}
use borrow.Author.Tests.{le-leb, lt-leb, leb-true}
use Rattle.laws.proofs.Largests.{Closed, largest-passes, largest-found}
use Rattle.auction.specs.Offers.{Offers, supply, supply_below, level_sum}
use Rattle.auction.specs.Shares.{level_amount}
use Rattle.auction.proofs.Supply.{supply_below-zero, supply_below-suc, supply_below-mono}
use Rattle.levels.specs.Stop.{stop_level}
use Rattle.levels.specs.inner.Stop.{StopsAt}
use Rattle.levels.specs.declared.level.Level.{Level}

abbrev pub stops : Offers → ℕ → ℕ → Bool
stops o x p = leb (supply_below o p) x

-- what is offered strictly below a price is what is offered at one cent less or below
pub below_less : (o : Offers) (p : ℕ) → 0 < p → supply_below o p ≡ supply o (p - 1)
below_less o p h = let e : p ≡ suc (p - 1) = omega arith in ap (supply_below o) e ∙ supply_below-suc o (p - 1)

stops-closed : (o : Offers) (x top : ℕ) → Closed (stops o x) top
stops-closed o x top k l e =
    le-leb (supply_below o k) x (omega (arith, leb-true (supply_below o (suc k)) x e, supply_below-mono o k (suc k) (omega arith)))

pub stop-below : (o : Offers) (x : ℕ) → supply_below o (stop_level o x) ≤ x
unfolding stop_level
stop-below o x =
    leb-true (supply_below o (stop_level o x)) x
    (largest-passes (stops o x) 1000000 (le-leb (supply_below o 0) x (omega (arith, supply_below-zero o))))

-- a price below which no more than x is offered, while more is at it or it is the highest, is where x stops
pub stop-found : (o : Offers) (x m : ℕ) → m ≤ 1000000 → supply_below o m ≤ x → (m < 1000000 → x < supply o m)
    → m ≡ stop_level o x
unfolding stop_level
stop-found o x m l below at =
    largest-found (stops o x) 1000000 m (stops-closed o x 1000000) l
    (λ h. le-leb _ x below)
    (λ h. lt-leb (supply_below o (suc m)) x (omega (arith, at h, supply_below-suc o m)))

-- two levels at which x stops are the same
pub stops-alone : (o : Offers) (x : ℕ) (l m : Level) → StopsAt o x l → StopsAt o x m → l ≡ m
stops-alone o x l m s t = λ i.
    record {
      total = (s.total ∙ sym t.total) i;
      price = priced i;
      amount = (s.amount ∙ ap (level_amount o x) priced ∙ sym t.amount) i;
      sum = (s.sum ∙ ap (level_sum o) priced ∙ sym t.sum) i;
      reach = (s.reach ∙ ap (supply o) priced ∙ sym t.reach) i;
    }
  where
    priced : l.price ≡ m.price
    priced = s.price ∙ sym t.price
