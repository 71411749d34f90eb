-- `pricing::clearing_price` meets its contract: the tests pick no price, the lesser of the curve's and the level's, or the curve's.
-- Assumes nothing.
use mathlib.Core.Path.{ap}
use Prim.Native.Nat.{ℕ}
use native.Mathlib.Omega.{arith}
use borrow.Author.Tests.{eq-eqb, ne_eqb, lt-ltb, le-ltb}
use Rattle.std.specs.Prelude.{Some}
use Rattle.pricing.specs.inner.Price.{price_at}
use Rattle.pricing.proofs.clearing_price.Goals as goal

pub returns-then-level-eq0 : goal.returns-then-level-eq0
unfolding price_at
returns-then-level-eq0 c = simp (eq-eqb _ _ c.if-level-eq0.true)

pub returns-then-level : goal.returns-then-level
unfolding price_at
returns-then-level c =
    simp (ne_eqb _ _ c.if-level-eq0.false, lt-ltb _ _ c.if-level.true)
    (ap (λ (q : ℕ). Some (record { 0 = q })) (omega arith))

pub returns-else-level : goal.returns-else-level
unfolding price_at
returns-else-level c =
    simp (ne_eqb _ _ c.if-level-eq0.false, le-ltb _ _ c.if-level.false)
    (ap (λ (q : ℕ). Some (record { 0 = q })) c.tenth_price-curve_price.ensures.0)
