-- `market::bracket::narrow` narrows a bracket. The loop's invariant: it is a bracket still, and no lower.
-- Assumes nothing.
use Rattle.std.proofs.Common.{arith}
use Rattle.market.proofs.Narrowing.{under-drawn-in}
use Rattle.market.proofs.bracket.narrow.Goals as goal

pub loop-at-smaller : goal.loop-at-smaller
loop-at-smaller c =
    let drawn = c.drawn_in-next.ensures in
    omega (arith, drawn.none.low, drawn.less, c.narrowed-looked.ensures.1.less)

pub loop-at-preserved : goal.loop-at-preserved
loop-at-preserved c =
    let start = c.args in
    let drawn = c.drawn_in-next.ensures in (
      under-drawn-in _ start.asks.now.prices.now start.asks.now.quantities.now _ _ _ c.narrowed-looked.ensures.0 drawn,
      omega (arith, c.loop-at.invariant.1, c.narrowed-looked.ensures.1.from, drawn.none.low),
    )
