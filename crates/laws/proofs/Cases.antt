-- Cases on an order or an equation of numbers, and what a Boolean test says.
-- Assumes nothing.
use mathlib.Core.Path.{◌≡◌, refl}
use mathlib.Core.Bool.{Bool, true, false, cond, ◌&&◌, true≢false, false≢true}
use Prim.Native.Nat.{ℕ, ◌≤◌, ◌<◌}
use native.Mathlib.Nat.{lt_of_not-le}
use native.Mathlib.Decide.{dec_le, ℕ_discrete}

-- one order or the other
pub by_order {ℓ} : {X : Type ℓ} (a b : ℕ) → (a ≤ b → X) → (b < a → X) → X
by_order a b f g = elim (dec_le a b) [ yes h ↦ f h | no h ↦ g (lt_of_not-le h) ]

-- equal or not
pub by-equality {ℓ} : {X : Type ℓ} (a b : ℕ) → (a ≡ b → X) → ((a ≡ b → ⊥) → X) → X
by-equality a b f g = elim (ℕ_discrete a b) [ yes h ↦ f h | no h ↦ g h ]

-- a test that holds, or one that fails, with the equation
pub by-test {ℓ} : {X : Type ℓ} (t : Bool) → (t ≡ true → X) → (t ≡ false → X) → X
by-test true f g = f refl
by-test false f g = g refl

-- which branch a test picks
pub cond-true {ℓ} : {X : Type ℓ} (t : Bool) (x y : X) → t ≡ true → cond t x y ≡ x
cond-true true x y e = refl
cond-true false x y e = absurd (false≢true e)

pub cond-false {ℓ} : {X : Type ℓ} (t : Bool) (x y : X) → t ≡ false → cond t x y ≡ y
cond-false true x y e = absurd (true≢false e)
cond-false false x y e = refl

-- both tests hold, and each of both
pub and-true : (s t : Bool) → s ≡ true → t ≡ true → s && t ≡ true
and-true true t e f = f
and-true false t e f = e

pub and_left : (s t : Bool) → s && t ≡ true → s ≡ true
and_left true t e = refl
and_left false t e = e

pub and_right : (s t : Bool) → s && t ≡ true → t ≡ true
and_right true t e = e
and_right false t e = absurd (false≢true e)
