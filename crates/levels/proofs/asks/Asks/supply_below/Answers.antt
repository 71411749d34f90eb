-- `supply_below` is what is offered strictly below a price: at or below the price one cent lower.
-- Assumes nothing.
use mathlib.Core.Path.{ap, sym, ◌∙◌}
use native.Mathlib.Omega.{arith}
use Rattle.auction.specs.Offers.{supply_below}
use Rattle.auction.proofs.Supply.{supply_below-zero}
use Rattle.levels.proofs.Stops.{below_less}
use Rattle.levels.proofs.asks.Asks.supply_below.Goals as goal

pub returns-then-price-eq0 : goal.returns-then-price-eq0
returns-then-price-eq0 c = (sym (ap (supply_below _) c.if-price-eq0.true ∙ supply_below-zero _), omega arith)

pub returns : goal.returns
returns c = (c.supply_at.ensures.0 ∙ sym (below_less _ _ (omega arith)), c.supply_at.ensures.1)
