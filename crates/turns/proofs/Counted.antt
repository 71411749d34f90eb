-- A row that passes a test counts as one, and any other as none.
-- Assumes nothing.
use mathlib.Core.Path.{◌≡◌, refl, ap, ◌∙◌}
use mathlib.Core.Bool.{Bool, true, false, cond}
use Prim.Native.Nat.{ℕ, ◌≤◌}
use native.Mathlib.Omega.{arith}
use Rattle.std.specs.Int.{from_bool}

pub counted : {r : ℕ} {t s : Bool} → r ≡ from_bool t → t ≡ s → r ≡ cond s 1 0
counted {r} {t} {s} e f = e ∙ ap from_bool f ∙ go s
  where
    go : (s : Bool) → from_bool s ≡ cond s 1 0
    go true = refl
    go false = refl

pub counted-most : {r : ℕ} (t : Bool) → r ≡ from_bool t → r ≤ 1
counted-most true e = omega arith
counted-most false e = omega arith
