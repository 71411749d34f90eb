-- `lower` moves the second number down to the last key before it, and looks at that key.
-- Assumes nothing.
use Prim.Native.Nat.{◌+◌}
use native.Mathlib.Omega.{arith}
use lib.ListN.{length}
use Rattle.contest.specs.inner.Contest.{contenders}
use Rattle.contest.specs.inner.Sieve.{key_at}
use Rattle.contest.specs.inner.Search.{Between}
use Rattle.contest.proofs.Closing.{moved_down}
use Rattle.contest.proofs.round.Round.lower.Goals as goal
use Rattle.contest.proofs.round.Round.lower.Goals.{After-highest_to-last}

-- the two numbers after the move
moved : (c : After-highest_to-last) → let a = c.args in
    Between (contenders a.self.now.standings.now) (key_at a.self.now.keys.now) (length a.self.now.standings.now) a.self.now.spare
    (record { low = a.b.low; few = a.b.few; high = c.highest_to-last.result + 1; many = a.b.many })
moved c = moved_down _ _ _ _ _ c.requires _ c.highest_to-last.ensures

pub look-requires : goal.look-requires
look-requires c =
    record {
      between = moved (goal.at.look-requires c).After-highest_to-last;
      low_le_mid = omega (arith, c.highest_to-last.ensures.least);
    }

pub returns : goal.returns
returns c = record { between = c.look.ensures.closer.between; apart = omega (arith, c.look.ensures.closer.apart) }
