-- Laws of the straight line between two points, rounded down.
--
-- In order: what is divided falls, and so does the line; its two ends; no price on it is over its first; a line that comes
-- down to 0 stays there.
-- Assumes nothing.
use mathlib.Core.Path.{◌≡◌, ap}
use Prim.Native.Nat.{ℕ, ◌+◌, ◌-◌, ◌*◌, ◌≤◌, ◌<◌}
use native.Mathlib.Nat.{add-zero, zero-add, mul-zero, zero-mul, mul-add, mul-div_cancel, zero-div}
use native.Mathlib.Nat.{le_refl, mul-le-mul_right, sub_self, sub-eq-zero_of_le}
use native.Mathlib.Omega.{arith}
use Rattle.laws.proofs.Pieces.{FallsFrom}
use Rattle.laws.proofs.Quotients.{div_mono}
use Rattle.curve.specs.Price.{line}

-- of two points the later has no more to divide
pub dividend-falls : (pa pb qa qb j k : ℕ) → pb ≤ pa → qa ≤ j → j ≤ k → k ≤ qb
    → pa * (qb - k) + pb * (k - qa) ≤ pa * (qb - j) + pb * (j - qa)
dividend-falls pa pb qa qb j k f a l u =
    let before : qb - j ≡ (qb - k) + (k - j) = omega arith in
    let after : k - qa ≡ (j - qa) + (k - j) = omega arith in
    rw (before, after)
    (omega (arith, mul-add pa (qb - k) (k - j), mul-add pb (j - qa) (k - j), mul-le-mul_right (k - j) f))

-- what is divided is at most the first price times the distance
pub dividend-most : (pa pb qa qb k : ℕ) → pb ≤ pa → qa ≤ k → k ≤ qb
    → pa * (qb - k) + pb * (k - qa) ≤ pa * (qb - qa)
dividend-most pa pb qa qb k f a u =
    omega (arith, dividend-falls pa pb qa qb qa k f (le_refl qa) a u, mul-zero pb, ap (λ (d : ℕ). pb * d) (sub_self qa))

-- a line to a lower price never rises
pub line-falls : (pa pb qa qb : ℕ) → pb ≤ pa → qa < qb → FallsFrom (line pa pb qa qb) qa qb
unfolding line
line-falls pa pb qa qb f r j k a l u =
    div_mono _ _ (qb - qa) (omega arith) (dividend-falls pa pb qa qb j k f a l u)

-- it starts at its first point
pub line-start : (pa pb qa qb : ℕ) → qa < qb → line pa pb qa qb qa ≡ pa
unfolding line
line-start pa pb qa qb r = rw (sub_self, mul-zero, add-zero, mul-div_cancel pa {n = qb - qa} (omega arith))

-- and ends at its second
pub line-end : (pa pb qa qb : ℕ) → qa < qb → line pa pb qa qb qb ≡ pb
unfolding line
line-end pa pb qa qb r = rw (sub_self, mul-zero, zero-add, mul-div_cancel pb {n = qb - qa} (omega arith))

-- no price on it is over its first
pub line-most : (pa pb qa qb k : ℕ) → pb ≤ pa → qa < qb → qa ≤ k → k ≤ qb → line pa pb qa qb k ≤ pa
line-most pa pb qa qb k f r a u =
    omega (arith, line-start pa pb qa qb r, line-falls pa pb qa qb f r qa k (le_refl qa) a u)

-- past its second point, where that one's price is 0, it stays at 0
pub line-past : (pa qa qb k : ℕ) → qb ≤ k → line pa 0 qa qb k ≡ 0
unfolding line
line-past pa qa qb k l = rw (sub-eq-zero_of_le l, mul-zero, zero-mul, zero-div)
