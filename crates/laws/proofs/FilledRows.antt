-- A list of which the first places are filled, place by place.
--
-- In order: what stands at a place that is filled, and past those; a list is filled if each place says so.
-- Assumes nothing.
use mathlib.Core.Path.{◌≡◌, sym, ◌∙◌}
use mathlib.Core.List.{List}
use Prim.Native.Nat.{ℕ, ◌≤◌, ◌<◌}
use lib.ListN.{length, get_or}
use lib.Seq.{ext_get_or}
use Rattle.laws.specs.Filled.{filled}
use Rattle.laws.proofs.Cases.{by_order}
use Rattle.laws.proofs.Fills.{length-filled, get_d-filled, get_d-unfilled}

module _ (f : ℕ → ℕ) (n : ℕ) (xs : List ℕ) {ys : List ℕ} (e : ys ≡ filled f n xs) where
  -- a place that is filled holds its value
  pub filled_row : n ≤ length xs → (i : ℕ) → i < n → get_or ys i 0 ≡ f i
  filled_row long i h = rw e (get_d-filled f n xs i 0 long h)

  -- a place past those holds what it held
  pub filled-past : (i : ℕ) → n ≤ i → get_or ys i 0 ≡ get_or xs i 0
  filled-past i h = rw e (get_d-unfilled f n xs i 0 h)

-- a list that holds the values, and past them what another holds, is the other filled
pub filled_is : (f : ℕ → ℕ) (n : ℕ) (xs ys : List ℕ) → n ≤ length xs → length ys ≡ length xs
    → ((i : ℕ) → i < n → get_or ys i 0 ≡ f i) → ((i : ℕ) → n ≤ i → get_or ys i 0 ≡ get_or xs i 0) → ys ≡ filled f n xs
filled_is f n xs ys long same within past =
    ext_get_or 0 ys (filled f n xs) (same ∙ sym (length-filled f n xs))
    (λ i h.
    by_order n i
    (λ k. past i k ∙ sym (get_d-unfilled f n xs i 0 k))
    (λ k. within i k ∙ sym (get_d-filled f n xs i 0 long k)))
