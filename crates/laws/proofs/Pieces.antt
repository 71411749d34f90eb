-- A function that falls piece by piece falls.
-- Assumes nothing.
use Prim.Native.Nat.{ℕ, ◌≤◌}
use native.Mathlib.Nat.{le_refl, le_of_lt, le_trans}
use Rattle.laws.proofs.Cases.{by_order}

-- from a to b, f never rises
abbrev pub FallsFrom : (ℕ → ℕ) → ℕ → ℕ → Type 0
FallsFrom f a b = (j k : ℕ) → a ≤ j → j ≤ k → k ≤ b → f k ≤ f j

-- what falls from a to m and from m to b falls from a to b
pub falls-joined : (f : ℕ → ℕ) (a m b : ℕ) → FallsFrom f a m → FallsFrom f m b → FallsFrom f a b
falls-joined f a m b g h j k p l u =
    by_order k m (g j k p l)
    (λ v. by_order m j
    (λ w. h j k w l u)
    (λ w. le_trans (h m k (le_refl m) (le_of_lt v) u) (g j m p (le_of_lt w) (le_refl m))))
