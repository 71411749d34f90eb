-- `market::bracket::bought` says yes only where the curve reaches the quantity and asks no less there.
-- Assumes nothing.
use mathlib.Core.Bool.{false≢true}
use Rattle.std.proofs.Common.{arith, leb-true}
use Rattle.market.proofs.bracket.bought.Goals as goal

pub returns-then-c-quantity : goal.returns-then-c-quantity
returns-then-c-quantity c = λ e. absurd (false≢true e)

pub returns : goal.returns
returns c =
    λ e.
    let price = c.args.price in
    (omega arith, omega (arith, leb-true price c.tenth_price-bid.result.0 e))
