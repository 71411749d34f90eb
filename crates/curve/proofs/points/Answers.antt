-- `curve::points` meets its contract: each field is what the function that makes it ensures, and such points go right and never up.
-- Assumes nothing.
use Rattle.curve.specs.Points.{second_price, quantity_at}
use Rattle.curve.proofs.Shapes.{curve-made}
use Rattle.curve.proofs.points.Goals as goal

pub returns : goal.returns
unfolding second_price quantity_at
returns c =
    curve-made c.args.w c.args.whole c.args.t c.requires.0 c.requires.1 _
    c.first_price.ensures
    (rw c.net_cost.ensures at c.daily.ensures.0)
    c.quantity.ensures
    c.quantity-2.ensures
    c.quantity-3.ensures
