-- The contract of the conversion leaves one answer: any two prices that it allows for the same arguments coincide.
-- Assumes nothing.
use mathlib.Core.Path.{◌≡◌, sym, ◌∙◌}
use Prim.Native.Nat.{ℕ}
use Rattle.units.specs.declared.CentsPerMwDay.{CentsPerMwDay}
use Rattle.units.specs.declared.DollarsPerMwYear.{DollarsPerMwYear}
use Rattle.units.proofs.daily.Reads as daily

-- the price, by the contract of `daily`
pub daily-decided : (x : DollarsPerMwYear) (quarters outage : ℕ) (r s : CentsPerMwDay)
    → daily.Post tt (x, (quarters, (outage, tt))) r (x, (quarters, (outage, tt)))
    → daily.Post tt (x, (quarters, (outage, tt))) s (x, (quarters, (outage, tt))) → r ≡ s
daily-decided x quarters outage r s e f = λ i. record { 0 = (e.0 ∙ sym f.0) i }
