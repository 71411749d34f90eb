-- Laws of the curve price.
--
-- In order: the price on each part of a curve, and that there is none past it; of any curve whose points go right and never
-- up, the price at Q2 and Q3, that the price never rises, and the highest price.
-- Assumes nothing.
use mathlib.Core.Path.{◌≡◌, sym, ◌∙◌}
use Prim.Native.Nat.{ℕ, ◌≤◌, ◌<◌}
use native.Mathlib.Nat.{le_refl, le_trans, le_antisymm}
use native.Mathlib.Omega.{arith}
use borrow.Author.Tests.{le-leb, lt-leb}
use Rattle.std.specs.Prelude.{None}
use Rattle.laws.proofs.Cases.{by_order, cond-true, cond-false}
use Rattle.laws.proofs.Pieces.{FallsFrom, falls-joined}
use Rattle.auction.specs.Offers.{Falling}
use Rattle.curve.specs.declared.Curve.{Curve}
use Rattle.curve.specs.Price.{line, tenth_price, curve_price, demand_of}
use Rattle.curve.specs.Shape.{Shaped}
use Rattle.curve.proofs.Lines.{line-falls, line-start, line-end, line-past}

-- up to Q1 the price is P1
pub price-level : (c : Curve) (k : ℕ) → k ≤ c.q1 → tenth_price c k ≡ c.p1.0
unfolding tenth_price
price-level c k h = cond-true _ _ _ (le-leb k c.q1 h)

-- past Q3 the curve says that it has none
pub no-price-past : (c : Curve) (k : ℕ) → c.q3 < k → curve_price c k ≡ None
unfolding curve_price
no-price-past c k h = cond-false _ _ _ (lt-leb k c.q3 h)

-- from Q1 to Q2 the price is on the first line
pub price-first : (c : Curve) (k : ℕ) → c.q1 < k → k ≤ c.q2
    → tenth_price c k ≡ line c.p1.0 c.p2.0 c.q1 c.q2 k
unfolding tenth_price
price-first c k a u = cond-false _ _ _ (lt-leb k c.q1 a) ∙ cond-true _ _ _ (le-leb k c.q2 u)

module _ (c : Curve) (s : Shaped c) where
  -- past Q2 the price is on the second line
  pub price-second : (k : ℕ) → c.q2 < k → tenth_price c k ≡ line c.p2.0 0 c.q2 c.q3 k
  unfolding tenth_price
  price-second k a = cond-false _ _ _ (lt-leb k c.q1 (omega arith)) ∙ cond-false _ _ _ (lt-leb k c.q2 a)

  -- at Q2 the price is P2
  pub price-at-second : tenth_price c c.q2 ≡ c.p2.0
  price-at-second =
      price-first c c.q2 s.first-rises (le_refl _)
      ∙ line-end c.p1.0 c.p2.0 c.q1 c.q2 s.first-rises

  -- at Q3 it is 0
  pub price-at-last : tenth_price c c.q3 ≡ 0
  price-at-last =
      price-second c.q3 s.second-rises
      ∙ line-end c.p2.0 0 c.q2 c.q3 s.second-rises

  -- the first line gives the price at Q1 too
  on-first : (k : ℕ) → c.q1 ≤ k → k ≤ c.q2 → tenth_price c k ≡ line c.p1.0 c.p2.0 c.q1 c.q2 k
  on-first k a u =
      by_order k c.q1
      (λ h. price-level c k h ∙ rw (le_antisymm h a) (sym (line-start _ _ _ _ s.first-rises)))
      (λ h. price-first c k h u)

  -- and the second line that at Q2
  on-second : (k : ℕ) → c.q2 ≤ k → tenth_price c k ≡ line c.p2.0 0 c.q2 c.q3 k
  on-second k a =
      by_order k c.q2
      (λ h. rw (le_antisymm h a) (price-at-second ∙ sym (line-start _ _ _ _ s.second-rises)))
      (price-second k)

  level-falls : FallsFrom (tenth_price c) 0 c.q1
  level-falls j k a l u = omega (arith, price-level c j (le_trans l u), price-level c k u)

  first-falls : FallsFrom (tenth_price c) c.q1 c.q2
  first-falls j k a l u =
      rw (on-first j a (le_trans l u), on-first k (le_trans a l) u)
      (line-falls _ _ _ _ s.prices-fall s.first-rises j k a l u)

  second-falls : FallsFrom (tenth_price c) c.q2 c.q3
  second-falls j k a l u =
      rw (on-second j a, on-second k (le_trans a l)) (line-falls _ _ _ _ (omega arith) s.second-rises j k a l u)

  -- the price never rises
  pub curve-falls : Falling (demand_of c)
  unfolding Falling
  curve-falls j k l u =
      falls-joined (tenth_price c) 0 c.q1 c.q3 level-falls
      (falls-joined (tenth_price c) c.q1 c.q2 c.q3 first-falls second-falls) j k (omega arith) l u

  -- no price is over P1
  pub price-most : (k : ℕ) → tenth_price c k ≤ c.p1.0
  unfolding Falling
  price-most k =
      by_order k c.q3
      (λ h. omega (arith, curve-falls 0 k (omega arith) h, price-level c 0 (omega arith)))
      (λ h. omega (arith, price-second k (omega arith), line-past c.p2.0 c.q2 c.q3 k (omega arith)))
