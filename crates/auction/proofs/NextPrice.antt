-- The next price: of all prices, the lowest at which more than x is offered.
--
-- In order: what it is; that `next_price` is it, though it looks at offers' prices only; that it is alone; what is offered
-- below it and at it; how a search finds it.
-- Assumes nothing.
use mathlib.Core.Path.{◌≡◌, refl, ap, subst}
use mathlib.Core.Bool.{false}
use mathlib.Core.Option.{Option, none, some}
use Prim.Native.Nat.{ℕ, zero, suc, ◌≤◌, ◌<◌}
use native.Mathlib.Nat.{le_antisymm, le_refl, le_trans, le_step, le_of_eq, not-le_of_lt}
use native.Mathlib.Omega.{arith}
use lib.Dec.{ltb}
use borrow.Author.Tests.{ltb-true, ltb-false, lt-ltb}
use Rattle.laws.specs.Sum.{sum_to}
use Rattle.laws.proofs.Cases.{by_order}
use Rattle.laws.proofs.Compare.{le-unless}
use Rattle.laws.proofs.Leasts.{Least, least_where-is}
use Rattle.auction.specs.Offers.{Offers, supply, supply_below}
use Rattle.auction.specs.Clearing.{next_price}
use Rattle.auction.proofs.Supply.{supply-split, supply-all, supply_below-zero, supply_below-suc}
use Rattle.auction.proofs.Supply.{supply-supply_below, level_sum-found}

-- m is the lowest price at which more than x is offered
pub record IsNext (o : Offers) (x m : ℕ) : Type 0 where
  -- the offers at m or below sum to more than x
  pub over : x < supply o m
  -- so they do at no lower price
  pub lowest : (p : ℕ) → x < supply o p → m ≤ p

-- the lowest price at which more than x is offered; or none, where at every price no more than x is
abbrev pub Next : Offers → ℕ → Option ℕ → Type 0
Next o x none = (p : ℕ) → supply o p ≤ x
Next o x (some m) = IsNext o x m

-- an offer whose price is no higher than p, and at whose price more than x is offered
record OfferOver (o : Offers) (x p : ℕ) : Type 0 where
  row : ℕ
  inside : row < o.count
  at_most : o.price row ≤ p
  over : x < supply o (o.price row)

-- where a price level lifts what is offered over x, one of its offers does
level-over : (o : Offers) (x p : ℕ) → x < supply o p → supply_below o p ≤ x → OfferOver o x p
level-over o x p h g =
    let r = level_sum-found o p (omega (arith, supply-split o p)) in
    record { row = r.0; inside = r.1; at_most = le_of_eq r.2; over = rw r.2 h }

offer-higher : (o : Offers) (x p : ℕ) → OfferOver o x p → OfferOver o x (suc p)
offer-higher o x p w = record { row = w.row; inside = w.inside; at_most = le_step w.at_most; over = w.over }

-- where more than x is offered at a price, it is so at some offer's price, which is no higher
offer-over : (o : Offers) (x p : ℕ) → x < supply o p → OfferOver o x p
offer-over o x zero h = level-over o x zero h (omega (arith, supply_below-zero o))
offer-over o x (suc p) h =
    by_order (supply o p) x
    (λ g. level-over o x (suc p) h (omega (arith, supply_below-suc o p)))
    (λ g. offer-higher o x p (offer-over o x p g))

-- of all prices, `next_price` is the lowest at which more than x is offered
pub next-is : (o : Offers) (x : ℕ) → Next o x (next_price o x)
unfolding next_price
next-is o x = go (next_price o x) (least_where-is _ o.price o.count)
  where
    refuted : (p : ℕ) → ((i : ℕ) → i < o.count → ltb x (supply o (o.price i)) ≡ false) → OfferOver o x p → ⊥
    refuted p r w = not-le_of_lt w.over (ltb-false _ _ (r w.row w.inside))

    go : (a : Option ℕ) → Least (λ i. ltb x (supply o (o.price i))) o.price o.count a → Next o x a
    go none r = λ p. le-unless (supply o p) x (λ h. refuted p r (offer-over o x p h))
    go (some m) r = record {
      over = rw (← r.value) (ltb-true _ _ r.passes);
      lowest = λ p h.
          let w = offer-over o x p h in
          le_trans (r.lowest w.row w.inside (lt-ltb _ _ w.over)) w.at_most;
    }

-- the next price, where there is one
pub next-some : (o : Offers) (x m : ℕ) → next_price o x ≡ some m → IsNext o x m
next-some o x m e = subst (Next o x) e (next-is o x)

-- where there is none, no price has more than x
pub next-none : (o : Offers) (x : ℕ) → next_price o x ≡ none → (p : ℕ) → supply o p ≤ x
next-none o x e = subst (Next o x) e (next-is o x)

-- there is one answer: whatever is the lowest price at which more than x is offered, is the next price
pub next-alone : (o : Offers) (x : ℕ) (a b : Option ℕ) → Next o x a → Next o x b → a ≡ b
next-alone o x none none r s = refl
next-alone o x none (some m) r s = absurd (omega (arith, r m, s.over))
next-alone o x (some m) none r s = absurd (omega (arith, s m, r.over))
next-alone o x (some m) (some n) r s = ap some (le_antisymm (r.lowest n s.over) (s.lowest m r.over))

-- below the next price no more than x is offered
pub next_under : (o : Offers) (x m p : ℕ) → IsNext o x m → p < m → supply o p ≤ x
next_under o x m p r l = le-unless (supply o p) x (λ h. not-le_of_lt l (r.lowest p h))

-- all that is offered strictly below the next price together is no more than x
pub next-below : (o : Offers) (x m : ℕ) → IsNext o x m → supply_below o m ≤ x
next-below o x zero r = omega (arith, supply_below-zero o)
next-below o x (suc p) r = omega (arith, supply_below-suc o p, next_under o x (suc p) p r (le_refl (suc p)))

-- what a search ends with: the price below which no more than x is offered, and at which more is, is the next price
pub next-found : (o : Offers) (x m : ℕ) → supply_below o m ≤ x → x < supply o m → next_price o x ≡ some m
next-found o x m b a = next-alone o x (next_price o x) (some m) (next-is o x) (record { over = a; lowest = lowest })
  where
    lowest : (p : ℕ) → x < supply o p → m ≤ p
    lowest p h = le-unless m p (λ l. not-le_of_lt h (le_trans (supply-supply_below o p m l) b))

-- or all quantities together are no more than x, and there is none
pub next-absent : (o : Offers) (x : ℕ) → sum_to o.quantity o.count ≤ x → next_price o x ≡ none
next-absent o x h = next-alone o x (next_price o x) none (next-is o x) (λ p. le_trans (supply-all o p) h)
