-- `shares::spare::key` meets its contract: what the part leaves of the exact product is the remainder, less than the
-- level's sum.
-- Assumes nothing.
use mathlib.Core.Path.{◌≡◌, sym, ◌∙◌}
use Prim.Native.Nat.{◌+◌, ◌*◌, ◌%◌, ◌<◌}
use native.Mathlib.Omega.{arith}
use Rattle.parts.proofs.RowParts.{part_left, key-at, key-away}
use Rattle.shares.proofs.spare.key.Goals as goal
use Rattle.shares.proofs.spare.key.Goals.{After-from-then-price-level}

-- what the part leaves of the exact product
left : (c : After-from-then-price-level) → let a = c.args in
    (c.from.result * c.from-then-price-level.result + a.quantity * a.level.amount % a.level.sum ≡ c.exact.result)
    × (a.quantity * a.level.amount % a.level.sum < a.level.sum)
left c =
    let l = part_left _ _ _ _ c.requires.divides c.requires.share_value c.if-price-level.true in
    (rw (c.from.ensures, c.from-then-price-level.ensures) (l.0 ∙ sym c.exact.ensures.0), l.1)

pub overflow_sub-left : goal.overflow_sub-left
overflow_sub-left c = omega (arith, (left (goal.at.overflow_sub-left c).After-from-then-price-level).0)

pub overflow_cast-result : goal.overflow_cast-result
overflow_cast-result c =
    let l = left (goal.at.overflow_cast-result c).After-from-then-price-level in
    omega (arith, l.0, l.1, c.requires.divides.low)

pub overflow_sub-result : goal.overflow_sub-result
overflow_sub-result c =
    let l = left (goal.at.overflow_sub-result c).After-from-then-price-level in
    omega (arith, l.0, l.1)

pub returns-then-price-level : goal.returns-then-price-level
returns-then-price-level c =
    let a = c.args in
    let l = left (goal.at.returns-then-price-level c).After-from-then-price-level in
    omega (arith, l.0, key-at a.level a.price a.quantity c.if-price-level.true)

pub returns-else-price-level : goal.returns-else-price-level
returns-else-price-level c = sym (key-away _ _ _ c.if-price-level.false)
