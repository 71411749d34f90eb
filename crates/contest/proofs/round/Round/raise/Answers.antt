-- `raise` moves the first number up to the next key, and looks just over it.
-- Assumes nothing.
use native.Mathlib.Omega.{arith}
use lib.ListN.{length}
use Rattle.contest.specs.inner.Contest.{contenders}
use Rattle.contest.specs.inner.Sieve.{key_at}
use Rattle.contest.specs.inner.Search.{Between}
use Rattle.contest.proofs.Closing.{moved_up}
use Rattle.contest.proofs.round.Round.raise.Goals as goal
use Rattle.contest.proofs.round.Round.raise.Goals.{After-lowest_from-low}

-- the two numbers after the move
moved : (c : After-lowest_from-low) → let a = c.args in
    Between (contenders a.self.now.standings.now) (key_at a.self.now.keys.now) (length a.self.now.standings.now) a.self.now.spare
    (record { low = c.lowest_from-low.result; few = a.b.few; high = a.b.high; many = a.b.many })
moved c = moved_up _ _ _ _ _ c.requires _ c.lowest_from-low.ensures

pub overflow_add-low : goal.overflow_add-low
overflow_add-low c = omega (arith, (moved (goal.at.overflow_add-low c).After-lowest_from-low).ordered)

pub look-requires : goal.look-requires
look-requires c =
    let at = goal.at.look-requires c in
    record {
      between = moved at.After-lowest_from-low;
      low_le_mid = omega (arith, (moved at.After-lowest_from-low).ordered);
    }

pub returns : goal.returns
returns c = record { between = c.look.ensures.closer.between; apart = omega (arith, c.look.ensures.closer.apart) }
