-- Laws of the conversion: a dearer amount is never cheaper by the day, and the highest price that terms in range can give.
-- Assumes nothing.
use Prim.Native.Nat.{ℕ, ◌-◌, ◌*◌, ◌≤◌, ◌<◌}
use native.Mathlib.Omega.{arith}
use Rattle.laws.proofs.Nearests.{nearest-mono, nearest-most}
use Rattle.units.specs.Conversion.{daily_cents}

-- more dollars a year are no fewer cents a day
pub daily-mono : (x y outage : ℕ) → outage < 10000 → x ≤ y → daily_cents x outage ≤ daily_cents y outage
unfolding daily_cents
daily-mono x y outage l h =
    nearest-mono (x * 100 * 10000) (y * 100 * 10000) (4 * 365 * (10000 - outage)) (omega arith) (omega arith)

-- seven quarters of a million dollars at an outage rate of one half are 9,589.04 dollars a day
pub daily-most : (x outage : ℕ) → x ≤ 7000000 → outage ≤ 5000 → daily_cents x outage ≤ 958904
unfolding daily_cents
daily-most x outage h l =
    nearest-most 958904 (x * 100 * 10000) (4 * 365 * (10000 - outage)) (omega arith) (omega arith)
