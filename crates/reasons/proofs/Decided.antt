-- The contracts of the reasons leave one answer: any two that a contract allows for the same arguments coincide.
-- Assumes nothing.
use mathlib.Core.Path.{◌≡◌, sym, ◌∙◌}
use Prim.Native.Nat.{ℕ}
use contract.Lifetimes.{Lfts}
use denote.Ref.{Bor}
use Rattle.curve.specs.declared.Curve.{Curve}
use Rattle.levels.specs.declared.asks.Asks.{Asks}
use Rattle.reasons.specs.declared.stop.Stop.{Stop}
use Rattle.reasons.proofs.stop.stop_at.Reads as stop-at
use Rattle.reasons.proofs.share.row_share_at.Reads as row-share-at
use Rattle.reasons.proofs.share.level_at.Reads as level-at
use Rattle.reasons.specs.Share.{RowShare}
use Rattle.reasons.specs.declared.share.Received.{Received}

-- where the cleared total stops, by the contract of `stop_at`
pub stop-at-decided : (κs : Lfts 2) (c : Curve) (asks : Bor Asks) (r s : Stop)
    → stop-at.Post κs (c, (asks, tt)) r (c, (asks, tt))
    → stop-at.Post κs (c, (asks, tt)) s (c, (asks, tt))
    → r ≡ s
stop-at-decided κs c asks r s e f = e ∙ sym f

-- a row's share, or that it isn't there, by the contract of `row_share_at`
pub row-share-at-decided : (κs : Lfts 2) (asks : Bor Asks) (x row : ℕ) (r s : RowShare)
    → row-share-at.Post κs (asks, (x, (row, tt))) r (asks, (x, (row, tt)))
    → row-share-at.Post κs (asks, (x, (row, tt))) s (asks, (x, (row, tt)))
    → r ≡ s
row-share-at-decided κs asks x row r s e f = e ∙ sym f

-- what a level receives and offers, by the contract of `level_at`
pub level-at-decided : (κs : Lfts 2) (asks : Bor Asks) (x price : ℕ) (r s : Received)
    → level-at.Post κs (asks, (x, (price, tt))) r (asks, (x, (price, tt)))
    → level-at.Post κs (asks, (x, (price, tt))) s (asks, (x, (price, tt)))
    → r ≡ s
level-at-decided κs asks x price r s e f =
    λ i. record { amount = (e.amount ∙ sym f.amount) i; sum = (e.sum ∙ sym f.sum) i }
