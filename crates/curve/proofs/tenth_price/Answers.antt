-- `curve::tenth_price` meets its contract: the cents of the exact price are the curve price, and no price is over P1.
-- Assumes nothing.
use mathlib.Core.Path.{◌≡◌, ap, ◌∙◌}
use native.Mathlib.Omega.{arith}
use Rattle.curve.specs.declared.exact.ExactPrice.{ExactPrice}
use Rattle.curve.specs.Price.{tenth_price}
use Rattle.curve.proofs.Prices.{price-most}
use Rattle.curve.proofs.Exacts.{exact-cents}
use Rattle.curve.proofs.tenth_price.Goals as goal

pub returns : goal.returns
returns c =
    let a = c.args in
    let cents : c.exact_price.result.cents.0 ≡ tenth_price a.c a.k =
    ap (λ (e : ExactPrice). e.cents.0) c.exact_price.ensures ∙ exact-cents a.c a.k in
    (cents, omega (arith, price-most a.c c.requires.0 a.k))
