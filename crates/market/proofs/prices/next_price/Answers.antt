-- `market::prices::next_price`: no price lies from `from` up to it. The loop's invariant: none of the rows passed.
-- Assumes nothing.
use Rattle.std.proofs.Common.{arith, below_none, below_more}
use Rattle.market.proofs.prices.next_price.Goals as goal

pub loop-price-init : goal.loop-price-init
loop-price-init c = (omega arith, below_none _)

pub loop-price-preserved : goal.loop-price-preserved
loop-price-preserved c = (
  omega arith,
  below_more _ _ (λ i l h. omega (arith, c.loop-price.invariant.1 i l h)) (λ h. omega arith),
)

pub returns : goal.returns
returns c = record { low = omega arith; high = omega arith; none = λ i l. c.loop-price.invariant.1 i (omega arith) }
