-- Laws of `list_of`: how long the list is, and what stands at a place of it; values that agree; values that are made of others; a
-- list is that of what stands at its places.
-- Assumes nothing.
use mathlib.Core.Path.{◌≡◌, refl, ap, ap₂}
use mathlib.Core.List.{List, [], ◌∷◌, map}
use Prim.Native.Nat.{ℕ, zero, suc, ◌<◌}
use native.Mathlib.Nat.{le_of_suc-le-suc}
use native.Mathlib.Omega.{arith}
use lib.ListN.{length, get_or}
use Rattle.laws.specs.Lists.{list_of}

module _ {ℓ} {A : Type ℓ} where
  pub length-list_of : (f : ℕ → A) (n : ℕ) → length (list_of f n) ≡ n
  unfolding list_of
  length-list_of f zero = refl
  length-list_of f (suc n) = ap suc (length-list_of (λ i. f (suc i)) n)

  -- a place that is there holds its value
  pub get_d-list_of : (f : ℕ → A) (n i : ℕ) (d : A) → i < n → get_or (list_of f n) i d ≡ f i
  unfolding list_of
  get_d-list_of f zero i d h = absurd (omega arith)
  get_d-list_of f (suc n) zero d h = refl
  get_d-list_of f (suc n) (suc i) d h = get_d-list_of (λ j. f (suc j)) n i d (le_of_suc-le-suc h)

  -- values that agree at each place make one list
  pub list_of-ext : (f g : ℕ → A) (n : ℕ) → ((i : ℕ) → i < n → f i ≡ g i) → list_of f n ≡ list_of g n
  unfolding list_of
  list_of-ext f g zero h = refl
  list_of-ext f g (suc n) h =
      ap₂ (λ (x : A) (xs : List A). x ∷ xs) (h 0 (omega arith))
      (list_of-ext (λ i. f (suc i)) (λ i. g (suc i)) n (λ i l. h (suc i) (omega arith)))

  -- a list is that of what stands at its places
  pub list_of-get_d : (xs : List A) (d : A) → list_of (λ i. get_or xs i d) (length xs) ≡ xs
  unfolding list_of
  list_of-get_d [] d = refl
  list_of-get_d (x ∷ xs) d = ap (λ (r : List A). x ∷ r) (list_of-get_d xs d)

-- a list of values that are made of others
pub list_of-map {ℓ κ} : {A : Type ℓ} {B : Type κ} (f : A → B) (g : ℕ → A) (n : ℕ) → list_of (λ i. f (g i)) n ≡ map f (list_of g n)
unfolding list_of
list_of-map f g zero = refl
list_of-map {B = B} f g (suc n) = ap (λ (r : List B). f (g 0) ∷ r) (list_of-map f (λ i. g (suc i)) n)
