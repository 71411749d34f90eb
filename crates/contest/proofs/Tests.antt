-- Boolean tests: one that both sides have beside another, and an order with a part taken off both its sides.
-- Assumes nothing.
use mathlib.Core.Path.{◌≡◌, refl, sym, ◌∙◌}
use mathlib.Core.Bool.{Bool, true, false, ◌&&◌, ◌||◌}
use Prim.Native.Nat.{ℕ, ◌+◌, ◌-◌, ◌≤◌}
use native.Mathlib.Omega.{arith}
use lib.Dec.{ltb}
use borrow.Author.Tests.{lt-ltb, le-ltb}
use Rattle.laws.proofs.Cases.{by_order}

-- a test that implies another implies it beside a third
pub and-implies : (w : Bool) {s t : Bool} → (s ≡ true → t ≡ true) → w && s ≡ true → w && t ≡ true
and-implies true h e = h e
and-implies false h e = e

-- a test beside either of two, and beside each
pub and-either : (w s t r : Bool) → w && (s || (t && r)) ≡ (w && s) || ((w && t) && r)
and-either true s t r = refl
and-either false s t r = refl

-- a + b is under c exactly where b is under what a leaves of c
pub ltb-part : (a b c : ℕ) → a ≤ c → ltb (a + b) c ≡ ltb b (c - a)
ltb-part a b c h =
    by_order c (a + b)
    (λ l. le-ltb (a + b) c l ∙ sym (le-ltb b (c - a) (omega arith)))
    (λ l. lt-ltb (a + b) c l ∙ sym (lt-ltb b (c - a) (omega arith)))
