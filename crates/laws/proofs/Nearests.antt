-- Laws of `nearest`.
--
-- In order: it is off by at most a half, either way; a whole number that stands at most a half over the quotient, or less
-- than a half under it; an exact multiple; a larger numerator; a numerator larger by the whole divisor.
-- Assumes nothing.
use mathlib.Core.Path.{◌≡◌}
use Prim.Native.Nat.{ℕ, suc, ◌+◌, ◌*◌, ◌/◌, ◌≤◌, ◌<◌}
use native.Mathlib.Nat.{le-div_iff_mul-le, div-lt_iff_lt-mul, div-mul-le_self, lt-div-mul-add, le_antisymm}
use native.Mathlib.Omega.{arith}
use Rattle.laws.specs.Nearest.{nearest}
use Rattle.laws.proofs.Quotients.{div_mono}

-- the nearest of n / d is over n / d by at most a half
pub nearest-over : (n d : ℕ) → 2 * (nearest n d * d) ≤ 2 * n + d
unfolding nearest
nearest-over n d = omega (arith, div-mul-le_self (2 * n + d) (2 * d))

-- and under it by less than a half
pub nearest-under : (n d : ℕ) → 0 < d → 2 * n < 2 * (nearest n d * d) + d
unfolding nearest
nearest-under n d p = omega (arith, lt-div-mul-add {a = 2 * n + d} {b = 2 * d} (omega arith))

-- a whole number over n / d by at most a half is at most the nearest
pub nearest-least : (m n d : ℕ) → 0 < d → 2 * (m * d) ≤ 2 * n + d → m ≤ nearest n d
unfolding nearest
nearest-least m n d p h = (le-div_iff_mul-le {k = 2 * d} (omega arith)).1 (omega arith)

-- a whole number under n / d by less than a half, or over it, is at least the nearest
pub nearest-most : (m n d : ℕ) → 0 < d → 2 * n < 2 * (m * d) + d → nearest n d ≤ m
unfolding nearest
nearest-most m n d p h =
    let l : (2 * n + d) / (2 * d) < suc m = (div-lt_iff_lt-mul {k = 2 * d} (omega arith)).1 (omega arith) in omega arith

-- a multiple of the divisor needs no rounding
pub nearest-multiple : (m d : ℕ) → 0 < d → nearest (m * d) d ≡ m
nearest-multiple m d p =
    le_antisymm (nearest-most m (m * d) d p (omega arith)) (nearest-least m (m * d) d p (omega arith))

-- a larger numerator gives no less
pub nearest-mono : (m n d : ℕ) → 0 < d → m ≤ n → nearest m d ≤ nearest n d
unfolding nearest
nearest-mono m n d p h = div_mono (2 * m + d) (2 * n + d) (2 * d) (omega arith) (omega arith)

-- a numerator larger by the divisor gives more
pub nearest-grows : (m n d : ℕ) → 0 < d → m + d ≤ n → nearest m d < nearest n d
nearest-grows m n d p h = nearest-least (suc (nearest m d)) n d p (omega (arith, nearest-over m d))
