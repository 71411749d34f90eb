-- Division rounded down, by any divisor.
-- Assumes nothing.
use Prim.Native.Nat.{ℕ, ◌/◌, ◌≤◌, ◌<◌}
use native.Mathlib.Nat.{le-div_iff_mul-le, div-mul-le_self, le_trans}

-- a larger numerator gives no less
pub div_mono : (m n d : ℕ) → 0 < d → m ≤ n → m / d ≤ n / d
div_mono m n d p h = (le-div_iff_mul-le p).1 (le_trans (div-mul-le_self m d) h)
