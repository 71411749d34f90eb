-- A list of which a loop has filled the first places: it is as long as it was, it is filled where the loop ends, and, if it
-- began as zeros, it reads as the values and 0 past the last.
-- Assumes nothing.
use mathlib.Core.Path.{◌≡◌, refl, ap, sym, ◌∙◌, fun_ext}
use mathlib.Core.Bool.{cond}
use mathlib.Core.List.{List}
use Prim.Native.Nat.{ℕ, zero, suc, ◌≤◌, ◌<◌}
use native.Mathlib.Omega.{arith}
use lib.ListN.{length, get_or, replicate, length-replicate}
use lib.Dec.{ltb}
use borrow.Author.Tests.{lt-ltb, le-ltb}
use Rattle.laws.specs.Filled.{filled}
use Rattle.laws.proofs.Cases.{by_order, cond-true, cond-false}
use Rattle.laws.proofs.Fills.{length-filled, get_d-filled, get_d-unfilled}

module _ (f : ℕ → ℕ) (n : ℕ) (xs : List ℕ) {ys : List ℕ} (e : ys ≡ filled f n xs) where
  -- the list is as long as it was
  pub length-filling : length ys ≡ length xs
  length-filling = ap length e ∙ length-filled f n xs

  -- a place that lay within it lies within it
  pub in-filling : {i : ℕ} → i < length xs → i < length ys
  in-filling h = rw length-filling h

-- where a loop ends, as many places are filled as it had turns
pub filled-all : (f : ℕ → ℕ) (xs : List ℕ) {i n : ℕ} {ys : List ℕ} → ys ≡ filled f i xs → i ≡ n
    → ys ≡ filled f n xs
filled-all f xs e h = rw h at e

-- as many zeros
abbrev pub zeros : ℕ → List ℕ
zeros m = replicate m 0

pub length-zeros : (m : ℕ) → length (zeros m) ≡ m
length-zeros m = length-replicate m 0

-- among zeros, and past them, every place reads as 0
pub get_d-zeros : (m i : ℕ) → ◌≡◌ {A = ℕ} (get_or (zeros m) i 0) 0
get_d-zeros zero i = refl
get_d-zeros (suc m) zero = refl
get_d-zeros (suc m) (suc i) = get_d-zeros m i

-- zeros of which the first are filled read as the values, and as 0 past the last
pub get_d-filled-zeros : (f : ℕ → ℕ) (n m i : ℕ) → n ≤ m → get_or (filled f n (zeros m)) i 0 ≡ cond (ltb i n) (f i) 0
get_d-filled-zeros f n m i h =
    by_order n i
    (λ l. get_d-unfilled f n (zeros m) i 0 l ∙ get_d-zeros m i ∙ sym (cond-false (ltb i n) (f i) 0 (le-ltb i n l)))
    (λ l.
    get_d-filled f n (zeros m) i 0 (omega (arith, length-zeros m)) l ∙ sym (cond-true (ltb i n) (f i) 0 (lt-ltb i n l)))

-- the same of all places at once
pub filled-zeros : (f : ℕ → ℕ) (n m : ℕ) {ys : List ℕ} → n ≤ m → ys ≡ filled f n (zeros m)
    → ◌≡◌ {A = ℕ → ℕ} (λ i. get_or ys i 0) (λ i. cond (ltb i n) (f i) 0)
filled-zeros f n m h e = fun_ext (λ i. ap (λ l. get_or l i 0) e ∙ get_d-filled-zeros f n m i h)
