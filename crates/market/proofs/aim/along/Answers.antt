-- `market::aim::along` stays inside: no more than the whole way is gone.
-- Assumes nothing.
use Rattle.std.proofs.Common.{◌-◌, ◌*◌, ◌/◌, ◌≤◌, mul-le-mul_right, mul-le-mul, arith}
use native.Mathlib.Nat.{div-le_of_le-mul}
use Rattle.market.proofs.aim.along.Goals as goal
use Rattle.market.proofs.aim.along.Goals.{Start}

-- no more than the whole way
way-most : (c : Start) → c.args.part * (c.args.qb - c.args.qa) / c.args.whole ≤ c.args.qb - c.args.qa
way-most c = div-le_of_le-mul c.args.whole (mul-le-mul_right (c.args.qb - c.args.qa) c.requires.0)

pub overflow_mul-way : goal.overflow_mul-way
overflow_mul-way c =
    omega (
      arith,
      mul-le-mul {n₁ = c.args.part} {m₁ = c.args.qb - c.args.qa} {n₂ = 4294967295} {m₂ = 4294967295} (omega arith) (omega arith),
    )

pub overflow_cast-result : goal.overflow_cast-result
overflow_cast-result c = omega (arith, way-most (goal.at.overflow_cast-result c).Start)

pub overflow_add-result : goal.overflow_add-result
overflow_add-result c = omega (arith, way-most (goal.at.overflow_add-result c).Start)

pub returns : goal.returns
returns c = omega (arith, way-most (goal.at.returns c).Start)
