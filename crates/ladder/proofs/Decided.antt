-- The contracts of the ladder, and of std's comparisons of numbers, leave one answer: any two that they allow for the same arguments
-- coincide.
--
-- In order: the ladder; of numbers of 32 bits the lesser, the greater, and by how much one is over the other; of sizes the lesser, and
-- by how much one is over the other.
-- Assumes nothing.
use mathlib.Core.Path.{◌≡◌, sym, ◌∙◌}
use Rattle.levels.specs.declared.asks.Asks.{Asks}
use Prim.Native.Nat.{ℕ}
use contract.Lifetimes.{Lfts}
use denote.Ref.{Bor}
use Rattle.ladder.specs.declared.rung.Ladder.{Ladder}
use Rattle.ladder.proofs.rung.ladder_at.Reads as ladder-at
use Rattle.std.below.core.proofs.int.u32.min.Reads as lesser
use Rattle.std.below.core.proofs.int.u32.max.Reads as greater
use Rattle.std.below.core.proofs.int.u32.saturating_sub.Reads as excess
use Rattle.std.below.core.proofs.int.usize.min.Reads as lesser-size
use Rattle.std.below.core.proofs.int.usize.saturating_sub.Reads as excess-size

-- the ladder and one of its rungs, by the contract of `ladder_at`
pub ladder-at-decided : (κs : Lfts 2) (asks : Bor Asks) (x stop k : ℕ) (r s : Ladder)
    → ladder-at.Post κs (asks, (x, (stop, (k, tt)))) r (asks, (x, (stop, (k, tt))))
    → ladder-at.Post κs (asks, (x, (stop, (k, tt)))) s (asks, (x, (stop, (k, tt))))
    → r ≡ s
ladder-at-decided κs asks x stop k r s e f = e ∙ sym f

-- the lesser, by the contract of std's `u32::min`
pub lesser-decided : (a b r s : ℕ)
    → lesser.Post tt (a, (b, tt)) r (a, (b, tt)) → lesser.Post tt (a, (b, tt)) s (a, (b, tt)) → r ≡ s
lesser-decided a b r s e f = e ∙ sym f

-- the greater, by the contract of std's `u32::max`
pub greater-decided : (a b r s : ℕ)
    → greater.Post tt (a, (b, tt)) r (a, (b, tt)) → greater.Post tt (a, (b, tt)) s (a, (b, tt)) → r ≡ s
greater-decided a b r s e f = e ∙ sym f

-- the difference, by the contract of std's `u32::saturating_sub`
pub excess-decided : (a b r s : ℕ)
    → excess.Post tt (a, (b, tt)) r (a, (b, tt)) → excess.Post tt (a, (b, tt)) s (a, (b, tt)) → r ≡ s
excess-decided a b r s e f = e ∙ sym f

-- the lesser of two sizes, by the contract of std's `usize::min`
pub lesser-size-decided : (a b r s : ℕ)
    → lesser-size.Post tt (a, (b, tt)) r (a, (b, tt)) → lesser-size.Post tt (a, (b, tt)) s (a, (b, tt)) → r ≡ s
lesser-size-decided a b r s e f = e ∙ sym f

-- the difference of two sizes, by the contract of std's `usize::saturating_sub`
pub excess-size-decided : (a b r s : ℕ)
    → excess-size.Post tt (a, (b, tt)) r (a, (b, tt)) → excess-size.Post tt (a, (b, tt)) s (a, (b, tt)) → r ≡ s
excess-size-decided a b r s e f = e ∙ sym f
