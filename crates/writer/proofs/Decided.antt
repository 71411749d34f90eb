-- The contract of `opening_fault` leaves one answer.
-- Assumes nothing.
use mathlib.Core.Path.{◌≡◌, sym, ◌∙◌}
use Prim.Native.Nat.{ℕ}
use Rattle.values.specs.declared.head.Parameters.{Parameters}
use Rattle.writer.proofs.opening_fault.Reads as opening-fault
use Rattle.values.specs.Refusals.{Verdict}

pub opening-fault-decided : (edition : ℕ) (p : Parameters) (rows : ℕ) (r s : Verdict)
    → opening-fault.Post tt (edition, (p, (rows, tt))) r (edition, (p, (rows, tt)))
    → opening-fault.Post tt (edition, (p, (rows, tt))) s (edition, (p, (rows, tt)))
    → r ≡ s
opening-fault-decided edition p rows r s e f = e ∙ sym f
