-- The cleared total: that it is the largest that can be supplied, that it is alone, and what holds below and past it.
-- Assumes nothing.
use mathlib.Core.Path.{◌≡◌}
use mathlib.Core.Bool.{Bool}
use Prim.Native.Nat.{ℕ, suc, ◌≤◌, ◌<◌, zero-le}
use native.Mathlib.Nat.{le-suc, le_trans, not-suc-le_self}
use native.Mathlib.Omega.{arith}
use lib.Dec.{leb}
use borrow.Author.Tests.{leb-true, le-leb}
use Rattle.laws.proofs.Cases.{by_order}
use Rattle.laws.proofs.Largests.{Closed, largest-is, largest-passes}
use Rattle.auction.specs.Offers.{Offers, Demand, Falling, supply}
use Rattle.auction.specs.Clearing.{cleared_total}
use Rattle.auction.specs.Demands.{Suppliable, IsTotal}
use Rattle.auction.proofs.Supply.{supply-mono}

-- the test that a quantity can be supplied
abbrev pub supplies : Demand → Offers → ℕ → Bool
supplies d o k = leb k (supply o (d.price k))

-- the cleared total is the largest quantity that the offers priced at or below the curve there can supply
pub total-is-largest : (d : Demand) (o : Offers) → IsTotal d o (cleared_total d o)
unfolding cleared_total
total-is-largest d o =
    let r = largest-is (supplies d o) d.last in
    record {
      within = r.within;
      supplied = leb-true _ _ (largest-passes (supplies d o) d.last (le-leb 0 (supply o (d.price 0)) zero-le));
      most = λ k l h. r.past k l (le-leb k _ h);
    }

-- there is one such quantity
pub total-alone : (d : Demand) (o : Offers) (x y : ℕ) → IsTotal d o x → IsTotal d o y → x ≡ y
total-alone d o x y r s =
    omega (arith, r.most y s.within s.supplied, s.most x r.within r.supplied)

-- if the offers can supply a quantity, they can supply one tenth less
pub supplied-down : (d : Demand) (o : Offers) → Falling d
    → (k : ℕ) → k < d.last → Suppliable d o (suc k) → Suppliable d o k
unfolding Falling
supplied-down d o falling k l h =
    omega (arith, supply-mono o (d.price (suc k)) (d.price k) (falling k (suc k) (le-suc k) l))

pub supplies-closed : (d : Demand) (o : Offers) → Falling d → Closed (supplies d o) d.last
supplies-closed d o falling k l e = le-leb k _ (supplied-down d o falling k l (leb-true _ _ e))

-- past the total, no more than it is offered at the curve price
pub supply-past-total : (d : Demand) (o : Offers) (x : ℕ) → Falling d → IsTotal d o x
    → (k : ℕ) → x < k → k ≤ d.last → supply o (d.price k) ≤ x
unfolding Falling
supply-past-total d o x falling t k h l =
    by_order (supply o (d.price (suc x))) x
    (λ g. le_trans (supply-mono o (d.price k) (d.price (suc x)) (falling (suc x) k h l)) g)
    (λ g. absurd (not-suc-le_self x (t.most (suc x) (le_trans h l) g)))
