-- The slope of the curve between cents, of any curve whose points go right and never up.
--
-- In order: what is divided on a line, at its ends and from tenth to tenth; the price as a fraction of a line; that it never
-- rises; by how much each tenth is less than the one before it.
-- Assumes nothing.
use mathlib.Core.Path.{◌≡◌, ap}
use Prim.Native.Nat.{ℕ, ◌+◌, ◌-◌, ◌*◌, ◌≤◌, ◌<◌}
use native.Mathlib.Nat.{add-zero, zero-add, mul-zero, sub_self, sub-zero, le_refl, le_of_lt, le_trans, le_antisymm}
use native.Mathlib.Omega.{arith}
use Rattle.laws.proofs.Cases.{by_order}
use Rattle.curve.specs.declared.Curve.{Curve}
use Rattle.curve.specs.Exact.{line_numerator, exact_line, exact_price, numerator, AtMost, MoreBy}
use Rattle.curve.specs.Shape.{Shaped}
use Rattle.curve.proofs.Lines.{dividend-falls}
use Rattle.curve.proofs.Fractions.{fractions-mono, fractions-differ, fractions-trans}
use Rattle.curve.proofs.Exacts.{exact-level, exact-first, exact-second, line-numerator, exact-remainder}

-- what is divided at the ends of a line
starts-at : (pa pb qa qb : ℕ) → line_numerator pa pb qa qb qa ≡ pa * (qb - qa)
starts-at pa pb qa qb = rw (sub_self, mul-zero, add-zero)

ends_at : (pa pb qa qb : ℕ) → line_numerator pa pb qa qb qb ≡ pb * (qb - qa)
ends_at pa pb qa qb = rw (sub_self, mul-zero, zero-add)

-- each tenth of a line is less than the one before it by the same
line_step : (pa pb qa qb k : ℕ) → pb ≤ pa → qa ≤ k → k < qb
    → line_numerator pa pb qa qb k ≡ line_numerator pa pb qa qb (k + 1) + (pa - pb)
line_step pa pb qa qb k f a u =
    let before : qb - k ≡ (qb - (k + 1)) + 1 = omega arith in
    let after : (k + 1) - qa ≡ (k - qa) + 1 = omega arith in
    rw (before, after) (omega arith)

module _ (c : Curve) (s : Shaped c) where
  -- the price as a fraction of the first line, from Q1 on
  as_first : (k : ℕ) → c.q1 ≤ k → k ≤ c.q2
      → numerator (exact_price c k) * (c.q2 - c.q1)
      ≡ line_numerator c.p1.0 c.p2.0 c.q1 c.q2 k * (exact_price c k).divisor
  unfolding exact_line
  as_first k a u =
      by_order k c.q1
      (λ h. rw (exact-level c k h, le_antisymm h a) (omega (arith, starts-at c.p1.0 c.p2.0 c.q1 c.q2)))
      (λ h. rw (exact-first c k h u) (ap (λ (x : ℕ). x * (c.q2 - c.q1)) (line-numerator _ _ _ _ k)))

  -- and of the second, from Q2 on
  as-second : (k : ℕ) → c.q2 ≤ k
      → numerator (exact_price c k) * (c.q3 - c.q2)
      ≡ line_numerator c.p2.0 0 c.q2 c.q3 k * (exact_price c k).divisor
  unfolding exact_line
  as-second k a =
      by_order k c.q2
      (λ h. rw (le_antisymm h a, exact-first c c.q2 s.first-rises (le_refl _))
      (rw (line-numerator c.p1.0 c.p2.0 c.q1 c.q2 c.q2, ends_at c.p1.0 c.p2.0 c.q1 c.q2)
      (omega (arith, starts-at c.p2.0 0 c.q2 c.q3))))
      (λ h. rw (exact-second c s k h) (ap (λ (x : ℕ). x * (c.q3 - c.q2)) (line-numerator _ _ _ _ k)))

  -- from a to b the exact price never rises
  abbrev Drops : ℕ → ℕ → Type 0
  Drops a b = (j k : ℕ) → a ≤ j → j ≤ k → k ≤ b → AtMost (exact_price c k) (exact_price c j)

  -- a price that never rises from a to m and from m to b never rises from a to b
  drops-joined : (a m b : ℕ) → Drops a m → Drops m b → Drops a b
  drops-joined a m b g h j k p l u =
      by_order k m (g j k p l)
      (λ v. by_order m j
      (λ w. h j k w l u)
      (λ w. fractions-trans _ (exact_price c k).divisor _ (exact_price c m).divisor _ (exact_price c j).divisor
      (omega (arith, exact-remainder c s m)) (h m k (le_refl m) (le_of_lt v) u) (g j m p (le_of_lt w) (le_refl m))))

  level-drops : Drops 0 c.q1
  level-drops j k a l u = rw (exact-level c j (le_trans l u), exact-level c k u) (le_refl _)

  first-drops : Drops c.q1 c.q2
  first-drops j k a l u =
      fractions-mono _ (exact_price c k).divisor _ (exact_price c j).divisor _ _ (c.q2 - c.q1) (omega arith)
      (as_first k (le_trans a l) u) (as_first j a (le_trans l u))
      (dividend-falls _ _ _ _ j k s.prices-fall a l u)

  second-drops : Drops c.q2 c.q3
  second-drops j k a l u =
      fractions-mono _ (exact_price c k).divisor _ (exact_price c j).divisor _ _ (c.q3 - c.q2) (omega arith)
      (as-second k (le_trans a l)) (as-second j a) (dividend-falls _ 0 _ _ j k (omega arith) a l u)

  -- the exact price, as a fraction, never rises
  pub exact-falls : (j k : ℕ) → j ≤ k → k ≤ c.q3 → AtMost (exact_price c k) (exact_price c j)
  exact-falls j k =
      drops-joined 0 c.q1 c.q3 level-drops (drops-joined c.q1 c.q2 c.q3 first-drops second-drops) j k (omega arith)

  -- from Q1 to Q2 each tenth is less than the one before it by the same fraction, P1 − P2 over the width
  pub exact-step-first : (k : ℕ) → c.q1 ≤ k → k < c.q2
      → MoreBy (exact_price c k) (exact_price c (k + 1)) (c.p1.0 - c.p2.0) (c.q2 - c.q1)
  exact-step-first k a u =
      fractions-differ _ (exact_price c k).divisor _ (exact_price c (k + 1)).divisor _ _ (c.q2 - c.q1) _
      (as_first k a (le_of_lt u)) (as_first (k + 1) (omega arith) (omega arith))
      (line_step _ _ _ _ k s.prices-fall a u)

  -- from Q2 to Q3 each tenth is less than the one before it by the same fraction, P2 over the width
  pub exact-step-second : (k : ℕ) → c.q2 ≤ k → k < c.q3
      → MoreBy (exact_price c k) (exact_price c (k + 1)) c.p2.0 (c.q3 - c.q2)
  exact-step-second k a u =
      fractions-differ _ (exact_price c k).divisor _ (exact_price c (k + 1)).divisor _ _ (c.q3 - c.q2) _
      (as-second k a) (as-second (k + 1) (omega arith))
      (rw (sub-zero) at (line_step c.p2.0 0 c.q2 c.q3 k (omega arith) a u))
