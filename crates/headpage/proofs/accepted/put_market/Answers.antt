-- `put_market` puts the answer, the curve, the total and the price, one behind the other.
-- Assumes nothing.
use Rattle.forms.proofs.Shows.{shows-one, shows_more}
use Rattle.headpage.specs.Accepted.{market_parts}
use Rattle.headpage.proofs.accepted.put_market.Goals as goal

pub returns : goal.returns
unfolding market_parts
returns c =
    rw (← c.days_of.ensures.0)
    (shows_more _ _ _ c.put_sold-sold.ensures
    (shows_more _ _ _ c.put_year-year.ensures
    (shows_more _ _ _ c.put_prices-prices.ensures
    (shows_more _ _ _ c.put_quantities-quantities.ensures
    (shows_more _ _ _ c.put_total-total.ensures (shows-one c.put_price.ensures))))))
