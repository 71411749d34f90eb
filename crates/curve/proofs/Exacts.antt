-- Laws of the curve price between cents.
--
-- In order: the price and the answer on each part of a curve; the cents; the numerator and the remainder on a line, and its end;
-- of any curve whose points go right and never up, the second line, the remainder, and the price at Q2 and Q3.
-- Assumes nothing.
use mathlib.Core.Path.{◌≡◌, sym, ap, ◌∙◌}
use Prim.Native.Nat.{ℕ, ◌-◌, ◌%◌, ◌≤◌, ◌<◌}
use native.Mathlib.Nat.{zero-add, mul-zero, sub_self, div-add-mod', mod-lt, mul-mod_left, le_refl}
use native.Mathlib.Omega.{arith}
use lib.Dec.{leb}
use borrow.Author.Tests.{le-leb, lt-leb}
use Rattle.std.specs.Prelude.{Some, None}
use Rattle.laws.proofs.Cases.{by_order, by-test, cond-true, cond-false}
use Rattle.curve.specs.declared.Curve.{Curve}
use Rattle.curve.specs.declared.exact.ExactPrice.{ExactPrice}
use Rattle.curve.specs.Price.{line, tenth_price, curve_price}
use Rattle.curve.specs.Exact.{line_numerator, exact_line, whole_cents, exact_price, exact_curve_price, numerator, cents_said}
use Rattle.curve.specs.Shape.{Shaped}
use Rattle.curve.proofs.Lines.{line-end}

-- up to Q1 the price is P1 in whole cents
pub exact-level : (c : Curve) (k : ℕ) → k ≤ c.q1 → exact_price c k ≡ whole_cents c.p1
unfolding exact_price
exact-level c k h = cond-true _ _ _ (le-leb k c.q1 h)

-- past Q1, to Q2, it is on the first line
pub exact-first : (c : Curve) (k : ℕ) → c.q1 < k → k ≤ c.q2
    → exact_price c k ≡ exact_line c.p1.0 c.p2.0 c.q1 c.q2 k
unfolding exact_price
exact-first c k a u = cond-false _ _ _ (lt-leb k c.q1 a) ∙ cond-true _ _ _ (le-leb k c.q2 u)

-- up to Q3 the curve answers with that price
pub exact-within : (c : Curve) (k : ℕ) (e : ExactPrice) → k ≤ c.q3 → e ≡ exact_price c k → Some e ≡ exact_curve_price c k
unfolding exact_curve_price
exact-within c k e h same = ap Some same ∙ sym (cond-true _ _ _ (le-leb k c.q3 h))

-- past Q3 the curve says that there is none between cents either
pub no-exact-past : (c : Curve) (k : ℕ) → c.q3 < k → exact_curve_price c k ≡ None
unfolding exact_curve_price
no-exact-past c k h = cond-false _ _ _ (lt-leb k c.q3 h)

-- the cents are the price that clearing uses
pub exact-cents : (c : Curve) (k : ℕ) → (exact_price c k).cents.0 ≡ tenth_price c k
unfolding exact_price exact_line tenth_price
exact-cents c k =
    by-test (leb k c.q1)
    (λ t. rw t)
    (λ t. by-test (leb k c.q2) (λ u. rw (t, u)) (λ u. rw (t, u)))

-- what a curve says between cents is, in its cents, what it says in whole cents, past Q3 too
pub exact-said : (c : Curve) (k : ℕ) → cents_said (exact_curve_price c k) ≡ curve_price c k
unfolding exact_curve_price curve_price
exact-said c k =
    by-test (leb k c.q3)
    (λ t. rw t (ap (λ (x : ℕ). Some (record { 0 = x })) (exact-cents c k)))
    (λ t. rw t)

-- on a line, cents times divisor plus remainder is the line's exact numerator
pub line-numerator : (pa pb qa qb k : ℕ) → numerator (exact_line pa pb qa qb k) ≡ line_numerator pa pb qa qb k
unfolding exact_line line
line-numerator pa pb qa qb k = div-add-mod' (line_numerator pa pb qa qb k) (qb - qa)

-- and the remainder is under the divisor
pub line-remainder : (pa pb qa qb k : ℕ) → qa < qb → (exact_line pa pb qa qb k).remainder < (exact_line pa pb qa qb k).divisor
unfolding exact_line
line-remainder pa pb qa qb k r = mod-lt (line_numerator pa pb qa qb k) (omega arith)

-- where a line ends its price is that of its point, with nothing left
pub line-whole : (pa pb qa qb : ℕ) → qa < qb
    → exact_line pa pb qa qb qb ≡ record { cents = record { 0 = pb }; remainder = 0; divisor = qb - qa }
unfolding exact_line
line-whole pa pb qa qb r =
    let left : line_numerator pa pb qa qb qb % (qb - qa) ≡ 0 = rw (sub_self, mul-zero, zero-add) (mul-mod_left pb (qb - qa)) in
    λ i. record { cents = record { 0 = line-end pa pb qa qb r i }; remainder = left i; divisor = qb - qa }

module _ (c : Curve) (s : Shaped c) where
  -- past Q2 the price is on the second line
  pub exact-second : (k : ℕ) → c.q2 < k → exact_price c k ≡ exact_line c.p2.0 0 c.q2 c.q3 k
  unfolding exact_price
  exact-second k a = cond-false _ _ _ (lt-leb k c.q1 (omega arith)) ∙ cond-false _ _ _ (lt-leb k c.q2 a)

  -- the remainder is under the divisor
  pub exact-remainder : (k : ℕ) → (exact_price c k).remainder < (exact_price c k).divisor
  exact-remainder k =
      by_order k c.q1
      (λ h. rw (exact-level c k h) (omega arith))
      (λ a. by_order k c.q2
      (λ h. rw (exact-first c k a h) (line-remainder _ _ _ _ k s.first-rises))
      (λ b. rw (exact-second k b) (line-remainder _ _ _ _ k s.second-rises)))

  -- at Q2 the price is P2 over the first line's width, with nothing left
  pub exact-at-second : exact_price c c.q2 ≡ record { cents = c.p2; remainder = 0; divisor = c.q2 - c.q1 }
  exact-at-second =
      exact-first c c.q2 s.first-rises (le_refl _) ∙ line-whole c.p1.0 c.p2.0 c.q1 c.q2 s.first-rises

  -- at Q3 it is 0 over the second's
  pub exact-at-last : exact_price c c.q3 ≡ record { cents = record { 0 = 0 }; remainder = 0; divisor = c.q3 - c.q2 }
  exact-at-last =
      exact-second c.q3 s.second-rises ∙ line-whole c.p2.0 0 c.q2 c.q3 s.second-rises
