-- `units::daily` meets its contract. The amount times its quarters is at most 7,000,000, so that the price is at most 958,904.
-- Assumes nothing.
use mathlib.Core.Path.{refl}
use native.Mathlib.Nat.{mul-le-mul}
use Rattle.laws.specs.Nearest.{nearest}
use Rattle.units.specs.Conversion.{daily_cents}
use Rattle.units.proofs.Conversions.{daily-most}
use Rattle.units.proofs.daily.Goals as goal

pub returns : goal.returns
unfolding daily_cents nearest
returns c =
    rw (c.from.ensures, c.from-2.ensures, c.from-3.ensures)
    (refl, daily-most _ _ (mul-le-mul {m₂ = 7} c.requires.0 c.requires.1) c.requires.2)
