-- The contracts of parts leave one answer, and one content of the list of amounts: any two outcomes that a contract allows for
-- the same numbers coincide, wherever the lists lie.
-- Assumes nothing.
use mathlib.Core.Path.{◌≡◌, sym, ◌∙◌}
use mathlib.Core.List.{List}
use Prim.Native.Nat.{ℕ}
use contract.Lifetimes.{Lfts}
use denote.Ref.{Bor, MutBor}
use Rattle.levels.specs.declared.asks.Asks.{Asks}
use Rattle.levels.specs.declared.level.Level.{Level}
use Rattle.parts.proofs.exact.Reads as exact
use Rattle.parts.proofs.parts.Reads as parts

-- a quantity's exact part, by the contract of `exact`
pub exact-decided : (quantity amount r s : ℕ)
    → exact.Post tt (quantity, (amount, tt)) r (quantity, (amount, tt))
    → exact.Post tt (quantity, (amount, tt)) s (quantity, (amount, tt)) → r ≡ s
exact-decided quantity amount r s e f = e.0 ∙ sym f.0

-- each row's part, by the contract of `parts`
pub parts-decided : (κs : Lfts 3) (asks : Bor Asks) (level : Level) (out after other : MutBor (List ℕ))
    → parts.Post κs (asks, (level, (out, tt))) tt (asks, (level, (after, tt)))
    → parts.Post κs (asks, (level, (out, tt))) tt (asks, (level, (other, tt)))
    → after.now ≡ other.now
parts-decided κs asks level out after other e f = e ∙ sym f
