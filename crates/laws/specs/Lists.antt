-- A list of a function's values, and the items of a list that pass a test.
-- Assumes nothing.
use Rattle.std.specs.Prelude.{ℕ, zero, suc, Bool, cond, List, [], ◌∷◌}

-- f 0, f 1, …, f (n − 1), in order
unfoldable pub list_of {ℓ} : {A : Type ℓ} → (ℕ → A) → ℕ → List A
list_of f zero = []
list_of f (suc n) = f 0 ∷ list_of (λ i. f (suc i)) n

-- those items of a list that pass `test`, in their order
unfoldable pub those {ℓ} : {A : Type ℓ} → (A → Bool) → List A → List A
those test [] = []
those test (x ∷ xs) = cond (test x) (x ∷ those test xs) (those test xs)
