-- `parts::part` meets its contract: the tests pick the case, and at the level the quotient is the part.
-- Assumes nothing.
use mathlib.Core.Path.{sym, ap, ◌∙◌}
use Prim.Native.Nat.{ℕ, ◌/◌}
use native.Mathlib.Omega.{arith}
use Rattle.parts.proofs.RowParts.{part-under, part-over, part_at}
use Rattle.parts.proofs.part.Goals as goal

pub returns-then-price-level : goal.returns-then-price-level
returns-then-price-level c = sym (part-under _ _ _ c.if-price-level.true)

pub returns-then-level-price : goal.returns-then-level-price
returns-then-level-price c = sym (part-over _ _ _ c.if-level-price.true)

pub returns-else-level-price : goal.returns-else-level-price
returns-else-level-price c =
    let a = c.args in
    c.rounded.ensures
    ∙ ap (λ (e : ℕ). e / a.level.sum) c.exact.ensures.0
    ∙ sym (part_at a.level a.price a.quantity (omega arith))
