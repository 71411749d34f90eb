-- `compare_offers` walks both books from one row at or below the price to the next. The loop's invariant: all offers before agree.
-- Assumes nothing.
use Prim.Native.Nat.{◌-◌}
use Rattle.compare.proofs.BookWalks.{Walk}
use Rattle.compare.proofs.walk.compare_offers.Given as goal

abbrev pub invariant-loop-i : goal.invariant-loop-i
invariant-loop-i l = Walk l.price l.first l.n l.second l.m l.i l.j l.shared

abbrev pub decreases-loop-i : goal.decreases-loop-i
decreases-loop-i l = l.n - l.i
