-- A price that separates amounts shows that no choice leaves more surplus, and that none with equal surplus clears more.
--
-- In order: what such a price is; the curve's side and the offers' side of the surplus; no more surplus; the curve's and the
-- offers' side where the surplus is equal; no more clears.
-- Assumes nothing.
use mathlib.Core.Path.{◌≡◌, ap, ◌∙◌}
use Prim.Native.Nat.{ℕ, suc, ◌+◌, ◌*◌, ◌≤◌, ◌<◌}
use native.Mathlib.Nat.{le_refl, le_trans, mul-suc}
use native.Mathlib.Omega.{arith}
use lib.Dec.{leb}
use borrow.Author.Tests.{leb-false}
use Rattle.laws.specs.Sum.{sum_to}
use Rattle.laws.proofs.Cases.{by_order}
use Rattle.laws.proofs.Sums.{sum_to-suc, sum_to-mono, sum_to-add, sum_to-mul}
use Rattle.laws.proofs.Where.{sum_where-covers}
use Rattle.laws.proofs.Compare.{by-comparison, sum_to-const, sum_to-growth, sum_to-tight, mul-exchange, mul-exchange-only}
use Rattle.auction.specs.Offers.{Offers, Demand, supply}
use Rattle.auction.specs.Surplus.{worth, total, cost, Choice, NoMoreSurplus}
use Rattle.auction.proofs.Supply.{supply-mono}

-- the price p separates the amounts x, on both sides of the market
pub record Separated (d : Demand) (o : Offers) (p : ℕ) (x : ℕ → ℕ) : Type 0 where
  -- an offer under the price clears in full
  pub whole : (i : ℕ) → i < o.count → o.price i < p → x i ≡ o.quantity i
  -- an offer over the price clears nothing
  pub nothing : (i : ℕ) → i < o.count → p < o.price i → x i ≡ 0
  -- up to the total the curve does not fall below the price
  pub up_to : (k : ℕ) → 0 < k → k ≤ total o x → p ≤ d.price k
  -- past the total the curve does not rise over the price
  pub past : (k : ℕ) → total o x < k → k ≤ d.last → d.price k ≤ p

worth-suc : (d : Demand) (t : ℕ) → worth d (suc t) ≡ worth d t + d.price (suc t)
unfolding worth
worth-suc d t = sum_to-suc (λ k. d.price (suc k)) t

-- where the curve is at least p from s to t, its worth grows by at least p for each tenth
worth-above : (d : Demand) (p s t : ℕ) → s ≤ t
    → ((k : ℕ) → s < k → k ≤ t → p ≤ d.price k) → worth d s + p * t ≤ worth d t + p * s
unfolding worth
worth-above d p s t l h =
    omega (
      arith,
      sum_to-const p s,
      sum_to-const p t,
      sum_to-growth (λ k. p) (λ k. d.price (suc k)) s t l (λ i a b. h (suc i) (omega arith) b),
    )

-- where it is at most p, by at most p
worth-below : (d : Demand) (p s t : ℕ) → s ≤ t
    → ((k : ℕ) → s < k → k ≤ t → d.price k ≤ p) → worth d t + p * s ≤ worth d s + p * t
unfolding worth
worth-below d p s t l h =
    omega (
      arith,
      sum_to-const p s,
      sum_to-const p t,
      sum_to-growth (λ k. d.price (suc k)) (λ k. p) s t l (λ i a b. h (suc i) (omega arith) b),
    )

-- p for each tenth of the amounts a, and the cost of the amounts x
mixed : Offers → ℕ → (ℕ → ℕ) → (ℕ → ℕ) → ℕ → ℕ
mixed o p a x i = p * a i + o.price i * x i

mixed-sum : (o : Offers) (p : ℕ) (a x : ℕ → ℕ) → sum_to (mixed o p a x) o.count ≡ p * total o a + cost o x
unfolding mixed total cost
mixed-sum o p a x =
    sum_to-add (λ i. p * a i) (λ i. o.price i * x i) o.count
    ∙ ap (λ (s : ℕ). s + sum_to (λ i. o.price i * x i) o.count) (sum_to-mul p a o.count)

module _ (d : Demand) (o : Offers) (p : ℕ) (x : ℕ → ℕ) (s : Separated d o p x) (a : ℕ → ℕ) (c : Choice d o a) where
  -- the curve's side: what the curve gives for a over x is at most p for each tenth
  curve-side : worth d (total o a) + p * total o x ≤ worth d (total o x) + p * total o a
  curve-side =
      by_order (total o a) (total o x)
      (λ h. worth-above d p _ _ h (λ k l m. s.up_to k (omega arith) m))
      (λ h. worth-below d p _ _ (omega arith) (λ k l m. s.past k l (le_trans m c.up_to)))

  -- the offers' side, offer by offer
  offer-side : (i : ℕ) → i < o.count → mixed o p a x i ≤ mixed o p x a i
  unfolding mixed
  offer-side i l =
      by-comparison p (o.price i)
      (λ h. omega (arith, mul-exchange (o.price i) p (a i) (x i) (omega arith) (omega (arith, s.nothing i l h))))
      (λ h. rw h (omega arith))
      (λ h. mul-exchange p (o.price i) (x i) (a i) (omega arith) (rw (s.whole i l h) (c.within i l)))

  offers-side : p * total o a + cost o x ≤ p * total o x + cost o a
  offers-side = omega (arith, sum_to-mono _ _ o.count offer-side, mixed-sum o p a x, mixed-sum o p x a)

  -- no choice leaves more surplus than separated amounts
  pub no-more-surplus : NoMoreSurplus d o a x
  unfolding NoMoreSurplus
  no-more-surplus = omega (arith, curve-side, offers-side)

  -- of a choice that leaves as much surplus
  module _ (e : NoMoreSurplus d o x a) where
    equal-offer : (i : ℕ) → i < o.count → mixed o p x a i ≤ mixed o p a x i
    unfolding NoMoreSurplus
    equal-offer =
        sum_to-tight _ _ o.count offer-side (omega (arith, e, curve-side, mixed-sum o p a x, mixed-sum o p x a))

    -- an offer over the price has nothing
    equal-nothing : (i : ℕ) → i < o.count → p < o.price i → a i ≤ 0
    unfolding mixed
    equal-nothing i l h =
        rw (← s.nothing i l h) (mul-exchange-only (o.price i) p (x i) (a i) h (omega (arith, equal-offer i l)))

    -- so the price's own supply covers it
    equal-supply : total o a ≤ supply o p
    unfolding total supply
    equal-supply =
        sum_where-covers (λ i. leb (o.price i) p) a o.quantity o.count
        (λ i l t. c.within i l)
        (λ i l t. equal-nothing i l (leb-false _ p t))

    -- the curve has not fallen below the price at the first tenth past the total
    equal-curve : total o x < total o a → p ≤ d.price (suc (total o x))
    unfolding NoMoreSurplus
    equal-curve h =
        omega (
          arith,
          e,
          offers-side,
          worth-suc d (total o x),
          mul-suc p (total o x),
          worth-below d p (suc (total o x)) (total o a) h (λ k l m. s.past k (omega arith) (le_trans m c.up_to)),
        )

    -- none with equal surplus clears more, where past the total no more than it is offered at the curve price
    pub equal-surplus-clears-no-more :
        ((k : ℕ) → total o x < k → k ≤ d.last → supply o (d.price k) ≤ total o x) → total o a ≤ total o x
    equal-surplus-clears-no-more past =
        by_order (total o a) (total o x) (λ h. h)
        (λ h. le_trans equal-supply (le_trans (supply-mono o p _ (equal-curve h)) (past _ (le_refl _) (within h))))
      where
        within : total o x < total o a → suc (total o x) ≤ d.last
        within h = le_trans h c.up_to
