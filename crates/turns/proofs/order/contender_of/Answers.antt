-- `contender_of` is what a row of a level contends with; the exact part fits 64 bits.
-- Assumes nothing.
use native.Mathlib.Omega.{arith}
use Rattle.reasons.proofs.Shared.{exact-fits}
use Rattle.turns.proofs.order.contender_of.Goals as goal

pub overflow_mul-exact : goal.overflow_mul-exact
overflow_mul-exact c =
    record { fits = rw (c.from.ensures, c.from-2.ensures) (exact-fits _ c.args.level.amount (c.args.rows.now.asks.listed.small _ c.requires.0) (omega arith)) }
