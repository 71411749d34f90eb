-- Laws of a row's part and key.
--
-- In order: which part a row has, by where its price lies; a part is at most the quantity; what rounding down leaves of the
-- quantity times the level's amount; which key a row has.
-- Assumes nothing.
use mathlib.Core.Path.{◌≡◌, ◌∙◌}
use Prim.Native.Nat.{ℕ, ◌+◌, ◌-◌, ◌*◌, ◌/◌, ◌%◌, ◌≤◌, ◌<◌}
use native.Mathlib.Nat.{le_refl, le_trans, div-mul-le_self, div-add-mod', mod-lt, mul-le-mul_left, le_of_mul-le-mul_right}
use native.Mathlib.Omega.{arith}
use borrow.Author.Tests.{lt-ltb, le-ltb, eq-eqb, ne_eqb}
use Rattle.laws.proofs.Compare.{by-comparison}
use Rattle.levels.specs.declared.level.Level.{Level}
use Rattle.parts.specs.inner.Parts.{part_of, key_of}
use Rattle.parts.specs.inner.Divides.{Divides}

module _ (l : Level) (price quantity : ℕ) where
  -- under the level all of the quantity
  pub part-under : price < l.price → part_of l price quantity ≡ quantity
  unfolding part_of
  part-under h = simp (lt-ltb _ _ h)

  -- over it nothing
  pub part-over : l.price < price → part_of l price quantity ≡ 0
  unfolding part_of
  part-over h = simp (le-ltb price l.price (omega arith), lt-ltb _ _ h)

  -- at it the exact part rounded down
  pub part_at : price ≡ l.price → part_of l price quantity ≡ quantity * l.amount / l.sum
  unfolding part_of
  part_at e = simp (le-ltb price l.price (omega arith), le-ltb l.price price (omega arith))

  quotient-most : 0 < l.sum → l.amount ≤ l.sum → quantity * l.amount / l.sum ≤ quantity
  quotient-most some within =
      le_of_mul-le-mul_right {k = l.sum}
      (le_trans (div-mul-le_self (quantity * l.amount) l.sum) (mul-le-mul_left quantity within))
      some

  -- a part is at most the quantity
  pub part-most : Divides l price quantity → part_of l price quantity ≤ quantity
  part-most d =
      by-comparison price l.price
      (λ h. rw part-under (le_refl quantity))
      (λ e. rw part_at (quotient-most (d.some e) d.within))
      (λ h. omega (arith, part-over h))

  -- at the level a share that is the part, times the level's sum, and what rounding down left are the exact product, and
  -- what it left is less than the sum
  pub part_left : (share : ℕ) → Divides l price quantity → share ≡ part_of l price quantity → price ≡ l.price
      → (share * l.sum + quantity * l.amount % l.sum ≡ quantity * l.amount) × (quantity * l.amount % l.sum < l.sum)
  part_left share d e at =
      (rw (e ∙ part_at at) (div-add-mod' (quantity * l.amount) l.sum), mod-lt _ (d.some at))

  -- at the level a row's key is what rounding down left, taken from the level's sum
  pub key-at : price ≡ l.price → key_of l price quantity ≡ l.sum - quantity * l.amount % l.sum
  unfolding key_of
  key-at e = simp (eq-eqb price l.price e)

  -- elsewhere it is 0
  pub key-away : (price ≡ l.price → ⊥) → key_of l price quantity ≡ 0
  unfolding key_of
  key-away e = simp (ne_eqb price l.price e)
