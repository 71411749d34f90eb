-- Parts of a page that are put one after another, the part of 0 first; and parts that are the same one by one.
-- Assumes nothing.
use mathlib.Core.Path.{◌≡◌, refl, ap₂}
use mathlib.Core.List.{List, ◌++◌}
use Prim.Native.Nat.{ℕ, zero, suc, ◌+◌, ◌<◌}
use native.Mathlib.Numerals.{add-one}
use native.Mathlib.Omega.{arith}
use Rattle.forms.specs.Shown.{Shows}
use Rattle.forms.proofs.Shows.{shows-none, shows_then}
use Rattle.forms.specs.Parts.{parts_of}

module _ (parts : ℕ → List (List ℕ)) (room : List ℕ) (at : ℕ) where
  pub parts_none : Shows room at (parts_of parts 0) room at
  unfolding parts_of
  parts_none = shows-none room at

  pub parts_more : (n : ℕ) (mid : List ℕ) (place : ℕ) (after : List ℕ) (end : ℕ) → Shows room at (parts_of parts n) mid place
      → Shows mid place (parts n) after end → Shows room at (parts_of parts (n + 1)) after end
  unfolding parts_of
  parts_more n mid place after end s t = rw (add-one n) (shows_then room at _ _ mid place after end s t)

  -- as many as a count says
  pub parts-counted : {m n : ℕ} (after : List ℕ) (end : ℕ) → m ≡ n
      → Shows room at (parts_of parts m) after end → Shows room at (parts_of parts n) after end
  parts-counted after end e s = rw (← e) s

-- parts that are the same one by one
pub parts_of-ext : (f g : ℕ → List (List ℕ)) (n : ℕ) → ((row : ℕ) → row < n → f row ≡ g row) → parts_of f n ≡ parts_of g n
unfolding parts_of
parts_of-ext f g zero e = refl
parts_of-ext f g (suc n) e = ap₂ ◌++◌ (parts_of-ext f g n (λ row l. e row (omega arith))) (e n (omega arith))
