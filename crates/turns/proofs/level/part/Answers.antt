-- `part` is a row's part of a level: the quotient is at most the quantity.
-- Assumes nothing.
use mathlib.Core.Path.{◌≡◌}
use Prim.Native.Nat.{◌*◌, ◌/◌, ◌≤◌}
use native.Mathlib.Omega.{arith}
use borrow.Author.Tests.{eq-eqb, ne_eqb}
use Rattle.reasons.proofs.Shared.{exact-fits}
use Rattle.turns.proofs.Leveled.{quotient-most}
use Rattle.turns.proofs.level.part.Goals as goal
use Rattle.turns.proofs.level.part.Goals.{Start}

pub overflow_mul-result : goal.overflow_mul-result
overflow_mul-result c =
    record { fits = rw (c.from.ensures, c.from-then-price-at.ensures) (exact-fits _ c.args.level.amount c.requires.2 (omega arith)) }

pub nonzero_div-result : goal.nonzero_div-result
nonzero_div-result c = rw c.from-then-price-at-2.ensures (c.requires.0 c.if-price-at.true)

-- at the level the part is at most the quantity
most : (c : Start) → c.args.price ≡ c.args.at
    → c.args.quantity * c.args.level.amount / c.args.level.sum ≤ c.args.quantity
most c e = quotient-most c.args.quantity c.args.level (c.requires.0 e) c.requires.1

pub overflow_cast-result : goal.overflow_cast-result
overflow_cast-result c =
    rw (c.from.ensures, c.from-then-price-at.ensures, c.from-then-price-at-2.ensures)
    (omega (arith, most (goal.at.overflow_cast-result c).Start c.if-price-at.true, c.requires.2))

pub returns-then-price-at : goal.returns-then-price-at
returns-then-price-at c =
    rw (c.from.ensures, c.from-then-price-at.ensures, c.from-then-price-at-2.ensures)
    (rw (eq-eqb _ _ c.if-price-at.true), most (goal.at.returns-then-price-at c).Start c.if-price-at.true)

pub returns-else-price-at : goal.returns-else-price-at
returns-else-price-at c = (rw (ne_eqb _ _ c.if-price-at.false), omega arith)
