-- Laws of what is offered at a price, below it, and at exactly it.
--
-- In order: supply never falls as the price rises; a level splits off; supply below a price; all quantities; one offer.
-- Assumes nothing.
use mathlib.Core.Path.{◌≡◌, sym, ◌∙◌}
use mathlib.Core.Bool.{◌||◌}
use Prim.Native.Nat.{ℕ, suc, ◌+◌, ◌≤◌, ◌<◌}
use native.Mathlib.Nat.{le_trans, le_of_eq, le_of_lt, ne_of_gt, lt_of_le_of_lt, lt_of_lt_of_le}
use native.Mathlib.Omega.{arith}
use lib.Dec.{leb, ltb, eqb, leb-suc-zero, leb-suc-suc}
use borrow.Author.Tests.{leb-true, ltb-true, eqb-true, le-leb, lt-leb, lt-ltb, le-ltb, eq-eqb, ne_eqb}
use Rattle.laws.specs.Sum.{sum_to}
use Rattle.laws.proofs.Sums.{sum_to-place}
use Rattle.laws.proofs.Compare.{by-comparison}
use Rattle.laws.proofs.Where.{sum_where-implied, sum_where-same, sum_where-either, sum_where-none}
use Rattle.laws.proofs.Where.{sum_where-every, sum_where-all, sum_where-place, sum_where-found}
use Rattle.auction.specs.Offers.{Offers, supply, supply_below, level_sum}

-- at a higher price no less is offered
pub supply-mono : (o : Offers) (p q : ℕ) → p ≤ q → supply o p ≤ supply o q
unfolding supply
supply-mono o p q h =
    sum_where-implied _ _ o.quantity o.count (λ i l e. le-leb _ q (le_trans (leb-true _ p e) h))

leb-either : (a p : ℕ) → ltb a p || eqb a p ≡ leb a p
leb-either a p =
    by-comparison a p
    (λ h. rw (lt-ltb a p h, le-leb a p (le_of_lt h)))
    (λ h. cc (le-ltb a p (le_of_eq (sym h)), eq-eqb a p h, le-leb a p (le_of_eq h)))
    (λ h. cc (le-ltb a p (le_of_lt h), ne_eqb a p (ne_of_gt h), lt-leb a p h))

-- what is offered at a price or below is what is offered below it and its level
pub supply-split : (o : Offers) (p : ℕ) → supply_below o p + level_sum o p ≡ supply o p
unfolding supply supply_below level_sum
supply-split o p =
    sum_where-either (λ i. ltb (o.price i) p) (λ i. eqb (o.price i) p) o.quantity o.count
    (λ i l e. ne_eqb _ p (λ q. omega (arith, ltb-true _ p e)))
    ∙ sum_where-same _ _ o.quantity o.count (λ i l. leb-either (o.price i) p)

-- below the price 0 nothing is offered
pub supply_below-zero : (o : Offers) → supply_below o 0 ≡ 0
unfolding supply_below
supply_below-zero o = sum_where-none _ o.quantity o.count (λ i l. leb-suc-zero (o.price i))

-- what is offered below a price is what is offered at the price before
pub supply_below-suc : (o : Offers) (p : ℕ) → supply_below o (suc p) ≡ supply o p
unfolding supply supply_below
supply_below-suc o p = sum_where-same _ _ o.quantity o.count (λ i l. leb-suc-suc (o.price i) p)

-- below a price no more is offered than at it
pub supply_below-supply : (o : Offers) (p : ℕ) → supply_below o p ≤ supply o p
supply_below-supply o p = omega (arith, supply-split o p)

-- at a lower price no more is offered than below a higher one
pub supply-supply_below : (o : Offers) (p q : ℕ) → p < q → supply o p ≤ supply_below o q
unfolding supply supply_below
supply-supply_below o p q h =
    sum_where-implied _ _ o.quantity o.count (λ i l e. lt-ltb _ q (lt_of_le_of_lt (leb-true _ p e) h))

-- below a higher price no less is offered
pub supply_below-mono : (o : Offers) (p q : ℕ) → p ≤ q → supply_below o p ≤ supply_below o q
unfolding supply_below
supply_below-mono o p q h =
    sum_where-implied _ _ o.quantity o.count (λ i l e. lt-ltb _ q (lt_of_lt_of_le (ltb-true _ p e) h))

-- at no price is more offered than all quantities together
pub supply-all : (o : Offers) (p : ℕ) → supply o p ≤ sum_to o.quantity o.count
unfolding supply
supply-all o p = sum_where-all _ o.quantity o.count

-- at a price that no offer passes, all quantities are offered
pub supply-top : (o : Offers) → supply o (sum_to o.price o.count) ≡ sum_to o.quantity o.count
unfolding supply
supply-top o =
    sum_where-every _ o.quantity o.count (λ i l. le-leb _ _ (sum_to-place o.price o.count i l))

-- an offer priced at or below p is part of what is offered there
pub supply-place : (o : Offers) (p i : ℕ) → i < o.count → o.price i ≤ p → o.quantity i ≤ supply o p
unfolding supply
supply-place o p i l h = sum_where-place _ o.quantity o.count i l (le-leb _ p h)

-- where something is offered at exactly a price, there is such an offer
pub level_sum-found : (o : Offers) (p : ℕ) → 0 < level_sum o p → (i : ℕ) × (i < o.count) × (o.price i ≡ p)
unfolding level_sum
level_sum-found o p h =
    let r = sum_where-found (λ i. eqb (o.price i) p) o.quantity o.count h in
    (r.0, r.1, eqb-true _ p r.2)
