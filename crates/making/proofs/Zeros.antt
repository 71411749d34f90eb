-- Zeros put into bytes.
--
-- In order: zeros, put together; none; one byte so many times; those of the places behind the rows.
-- Assumes nothing.
use mathlib.Core.Path.{◌≡◌, refl, sym, ap, ◌∙◌}
use mathlib.Core.List.{List, ◌∷◌, ◌++◌}
use Prim.Native.Nat.{ℕ, zero, suc, ◌+◌, ◌-◌, ◌*◌}
use native.Mathlib.Nat.{add-zero, zero-add, suc-add}
use native.Mathlib.Omega.{arith}
use lib.ListN.{take, drop, replicate, take-append-drop}
use Rattle.encoding.specs.Numbers.{zeros}
use Rattle.places.specs.inner.Put.{put}
use Rattle.making.specs.inner.Made.{unused_at}

pub zeros-add : (m n : ℕ) → zeros (m + n) ≡ zeros m ++ zeros n
unfolding zeros
zeros-add zero n = ap zeros (zero-add n)
zeros-add (suc m) n = ap zeros (suc-add m n) ∙ ap (λ (s : List ℕ). 0 ∷ s) (zeros-add m n)

pub zeros-none : (b : List ℕ) (at : ℕ) → b ≡ put b at (zeros 0)
unfolding put zeros
zeros-none b at = sym (ap (λ (k : ℕ). take at b ++ drop k b) (add-zero at) ∙ take-append-drop at b)

-- zeros are one byte so many times
pub zeros-filled : (n : ℕ) → replicate n 0 ≡ zeros n
unfolding zeros
zeros-filled zero = refl
zeros-filled (suc n) = ap (λ (s : List ℕ). 0 ∷ s) (zeros-filled n)

-- where all places are used
pub unused-none : (b : List ℕ) (at here : ℕ) → here ≡ 15 → b ≡ unused_at b at here
unused-none b at here e =
    let none : 480 - here * 32 ≡ 0 = omega (arith, e) in
    zeros-none b (at + (28 + here * 32)) ∙ ap (λ (n : ℕ). put b (at + (28 + here * 32)) (zeros n)) (sym none)
