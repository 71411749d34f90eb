-- `alike` finds the keys alike only where they are. The loop's invariant: where no other key was counted, the keys passed are
-- the first.
-- Assumes nothing.
use mathlib.Core.Path.{◌≡◌}
use Prim.Native.Nat.{ℕ, ◌≤◌, ◌<◌}
use lib.ListN.{get_or}
use Rattle.contest.proofs.round.Round.alike.Given as goal

abbrev pub invariant-loop-i : goal.invariant-loop-i
invariant-loop-i l = (l.others ≤ l.i) × (l.others ≡ 0 → (k : ℕ) → k < l.i → get_or l.self.keys.now k 0 ≡ l.first)
