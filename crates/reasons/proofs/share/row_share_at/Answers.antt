-- `row_share_at` tells whether the row is there.
-- Assumes nothing.
use native.Mathlib.Omega.{arith}
use Rattle.reasons.proofs.Shared.{row-shares, no_row}
use Rattle.reasons.proofs.share.row_share_at.Goals as goal

pub share_at-requires : goal.share_at-requires
share_at-requires c = (omega arith, c.requires _ (omega arith))

pub returns-then-row-asks : goal.returns-then-row-asks
returns-then-row-asks c = row-shares _ _ _ _ c.if-row-asks.true c.share_at.ensures

pub returns-else-row-asks : goal.returns-else-row-asks
returns-else-row-asks c = no_row _ _ _ (omega arith)
