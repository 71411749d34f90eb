-- Laws of `filled`: what a loop that stores one entry a turn shows of its list, and what stands where afterwards.
-- Assumes nothing.
use mathlib.Core.Path.{◌≡◌, refl, ◌∙◌}
use Prim.Native.Nat.{ℕ, zero, suc, ◌+◌, ◌≤◌, ◌<◌}
use mathlib.Core.List.{List}
use native.Mathlib.Numerals.{add-one}
use native.Mathlib.Omega.{arith}
use lib.ListN.{length, get_or, set, length-set}
use lib.Seq.{get_or-set_same, get_or-set_other}
use Rattle.laws.specs.Filled.{filled}
use Rattle.laws.proofs.Cases.{by-equality}

-- where a loop begins, nothing is filled
pub filled_none : (f : ℕ → ℕ) (xs : List ℕ) → xs ≡ filled f 0 xs
unfolding filled
filled_none f xs = refl

-- one more store fills one more entry
pub filled_more : (f : ℕ → ℕ) (n : ℕ) (xs : List ℕ) {ys : List ℕ} {v : ℕ} → ys ≡ filled f n xs → v ≡ f n
    → set ys n v ≡ filled f (n + 1) xs
unfolding filled
filled_more f n xs e h = rw (add-one n, e, h)

pub length-filled : (f : ℕ → ℕ) (n : ℕ) (xs : List ℕ) → length (filled f n xs) ≡ length xs
unfolding filled
length-filled f zero xs = refl
length-filled f (suc n) xs = length-set (filled f n xs) n (f n) ∙ length-filled f n xs

-- an entry that was filled holds its value
pub get_d-filled : (f : ℕ → ℕ) (n : ℕ) (xs : List ℕ) (i d : ℕ) → n ≤ length xs → i < n → get_or (filled f n xs) i d ≡ f i
unfolding filled
get_d-filled f zero xs i d l h = absurd (omega arith)
get_d-filled f (suc n) xs i d l h =
    by-equality i n
    (λ e. rw e (get_or-set_same (filled f n xs) n (f n) d (omega (arith, length-filled f n xs))))
    (λ e. get_or-set_other (filled f n xs) n i (f n) d e ∙ get_d-filled f n xs i d (omega arith) (omega arith))

-- an entry past those holds what it held
pub get_d-unfilled : (f : ℕ → ℕ) (n : ℕ) (xs : List ℕ) (i d : ℕ) → n ≤ i → get_or (filled f n xs) i d ≡ get_or xs i d
unfolding filled
get_d-unfilled f zero xs i d h = refl
get_d-unfilled f (suc n) xs i d h =
    get_or-set_other (filled f n xs) n i (f n) d (λ e. omega arith) ∙ get_d-unfilled f n xs i d (omega arith)

-- equal values fill alike
pub filled-ext : (f g : ℕ → ℕ) (n : ℕ) (xs : List ℕ) → ((i : ℕ) → i < n → f i ≡ g i) → filled f n xs ≡ filled g n xs
unfolding filled
filled-ext f g zero xs h = refl
filled-ext f g (suc n) xs h =
    let e : filled f n xs ≡ filled g n xs = filled-ext f g n xs (λ i l. h i (omega arith)) in
    rw (e, h n (omega arith))
