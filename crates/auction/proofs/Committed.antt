-- What is committed: at least what cleared, nothing where nothing cleared, and at most the quantity.
-- Assumes nothing.
use mathlib.Core.Path.{◌≡◌, refl}
use mathlib.Core.Option.{Option, none, some}
use Prim.Native.Nat.{ℕ, ◌≤◌, ◌<◌, max}
use native.Mathlib.Omega.{arith}
use borrow.Author.Tests.{ne_eqb}
use Rattle.laws.proofs.Cases.{by-equality}
use Rattle.auction.specs.Settlement.{committed}

-- where nothing cleared, nothing is committed, block or not
pub committed-none : (block : Option ℕ) → committed block 0 ≡ 0
committed-none none = refl
committed-none (some b) = refl

-- where something cleared of an offer with a block, the larger of both is committed
pub committed-block : (b c : ℕ) → 0 < c → committed (some b) c ≡ max c b
committed-block b c l = rw (ne_eqb c 0 (omega arith))

-- no less is committed than cleared
pub committed-least : (block : Option ℕ) (c : ℕ) → c ≤ committed block c
committed-least none c = omega arith
committed-least (some b) c =
    by-equality c 0 (λ e. omega arith) (λ n. omega (arith, committed-block b c (omega arith)))

-- no more is committed than a quantity that neither the block nor what cleared passes
pub committed-most : (block : Option ℕ) (c q : ℕ) → ((b : ℕ) → block ≡ some b → b ≤ q) → c ≤ q → committed block c ≤ q
committed-most none c q fits l = l
committed-most (some b) c q fits l =
    by-equality c 0
    (λ e. rw e (omega arith))
    (λ n. omega (arith, committed-block b c (omega arith), fits b refl))
