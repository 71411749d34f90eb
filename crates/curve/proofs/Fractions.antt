-- Fractions compared by products, over numbers: n over d is m over w where n times w is m times d.
-- Assumes nothing.
use mathlib.Core.Path.{◌≡◌, ap}
use Prim.Native.Nat.{ℕ, ◌+◌, ◌*◌, ◌≤◌, ◌<◌}
use native.Mathlib.Nat.{mul-le-mul_right, le_of_mul-le-mul_right}
use native.Mathlib.Omega.{arith}

-- of two fractions that come to m and n over one width, m being at most n, the first is at most the second
pub fractions-mono : (na da nb db m n w : ℕ) → 0 < w → na * w ≡ m * da → nb * w ≡ n * db → m ≤ n → na * db ≤ nb * da
fractions-mono na da nb db m n w p e f l =
    le_of_mul-le-mul_right {k = w}
    (omega (arith, ap (λ (x : ℕ). x * db) e, ap (λ (x : ℕ). x * da) f, mul-le-mul_right (da * db) l)) p

-- where m is n and x more, the first is the second and x over the width more
pub fractions-differ : (na da nb db m n w x : ℕ) → na * w ≡ m * da → nb * w ≡ n * db → m ≡ n + x
    → na * (db * w) ≡ nb * (da * w) + x * (da * db)
fractions-differ na da nb db m n w x e f g =
    omega (arith, ap (λ (y : ℕ). y * db) e, ap (λ (y : ℕ). y * da) f, ap (λ (y : ℕ). y * (da * db)) g)

-- a fraction that is at most a second, which is at most a third, is at most the third
pub fractions-trans : (na da nb db nc dc : ℕ) → 0 < db → na * db ≤ nb * da → nb * dc ≤ nc * db → na * dc ≤ nc * da
fractions-trans na da nb db nc dc p l m =
    le_of_mul-le-mul_right {k = db} (omega (arith, mul-le-mul_right dc l, mul-le-mul_right da m)) p
