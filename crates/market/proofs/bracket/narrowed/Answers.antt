-- `market::bracket::narrowed` narrows a bracket at a price inside it.
-- Assumes nothing.
use Rattle.std.proofs.Common.{le_of_eq, arith}
use Rattle.curve.specs.Price.{demand_of}
use Rattle.market.proofs.Narrowing.{supplied-at, under-over}
use Rattle.market.proofs.bracket.narrowed.Goals as goal

pub returns-then-bought : goal.returns-then-bought
returns-then-bought c =
    let offered = c.supply_at-offered.ensures.0 in
    let d = demand_of c.args.c in
    let meets = c.bought.ensures c.if-bought.true in (
      under-over d _ c.args.b c.args.price _ c.requires.shaped.1.high (omega arith) offered meets.0
          (supplied-at d _ c.args.price _ (le_of_eq offered) meets.1),
      record { from = omega arith; ordered = omega arith; less = omega arith },
    )
