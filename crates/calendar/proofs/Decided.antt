-- The contract of `days_of` leaves one answer: any two counts that it allows for the same year coincide.
-- Assumes nothing.
use mathlib.Core.Path.{◌≡◌, sym, ◌∙◌}
use Prim.Native.Nat.{ℕ}
use Rattle.calendar.proofs.days_of.Reads as days-of

-- the days of a delivery year, by the contract of `days_of`
pub days-of-decided : (year r s : ℕ)
    → days-of.Post tt (year, tt) r (year, tt) → days-of.Post tt (year, tt) s (year, tt) → r ≡ s
days-of-decided year r s e f = e.0 ∙ sym f.0
