-- `share_at` is a row's share of its level.
-- Assumes nothing.
use Prim.Native.Nat.{◌<◌}
use native.Mathlib.Omega.{arith}
use Rattle.auction.specs.Offers.{Offers}
use Rattle.levels.specs.inner.Asks.{offers_in}
use Rattle.reasons.proofs.Shared.{row-level, exact-fits, share-is}
use Rattle.reasons.proofs.share.share_at.Goals as goal
use Rattle.reasons.proofs.share.share_at.Goals.{After-level_at-level}

pub overflow_mul-exact : goal.overflow_mul-exact
overflow_mul-exact c =
    record { fits = rw (c.from.ensures, c.from-2.ensures) (exact-fits _ c.level_at-level.result.amount (c.args.asks.now.listed.small c.args.row c.requires.0) (omega arith)) }

abbrev offers : After-level_at-level → Offers
offers c = offers_in c.args.asks.now

-- the level of the row has something to sell
sum-some : (c : After-level_at-level) → 0 < c.level_at-level.result.sum
sum-some c =
    omega (arith, c.level_at-level.ensures.sum, row-level (offers c) c.args.row c.requires.0 c.requires.1)

pub nonzero_div-result : goal.nonzero_div-result
nonzero_div-result c = rw c.from-sum.ensures (sum-some (goal.at.nonzero_div-result c).After-level_at-level)

pub nonzero_rem-result : goal.nonzero_rem-result
nonzero_rem-result c = rw c.from-sum.ensures (sum-some (goal.at.nonzero_rem-result c).After-level_at-level)

pub returns : goal.returns
returns c = rw (c.from.ensures, c.from-2.ensures, c.from-sum.ensures) (share-is _ _ _ _ c.level_at-level.ensures)
