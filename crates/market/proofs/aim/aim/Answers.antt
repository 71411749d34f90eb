-- `market::aim::aim` gives a price inside the bracket.
-- Assumes nothing.
use Rattle.std.proofs.Common.{◌-◌, mul-le-mul, arith}
use Rattle.market.proofs.aim.aim.Goals as goal

pub overflow_mul-step : goal.overflow_mul-step
overflow_mul-step c =
    let b = c.args.b in
    let short = c.from-short.result in
    omega (
      arith,
      mul-le-mul {n₁ = b.cap - b.from} {m₁ = short} {n₂ = 4294967295} {m₂ = 4294967295} (omega arith) (omega arith),
    )
