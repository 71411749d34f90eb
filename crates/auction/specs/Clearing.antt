-- The cleared total and the clearing price.
-- Assumes nothing.
use Rattle.std.specs.Prelude.{ℕ, cond, leb, ltb, eqb}
use Rattle.std.proofs.Math.Option.{Option, none, some}
use Rattle.laws.specs.Largest.{largest, least_where, lesser}
use Rattle.auction.specs.Offers.{Offers, Demand, supply}

-- X: the largest k from 0 to the last point such that the offers priced at or below the curve price at k sum to at least k
unfoldable pub cleared_total : Demand → Offers → ℕ
cleared_total d o = largest (λ k. leb k (supply o (d.price k))) d.last

-- the lowest price for which the offers at it or below sum to more than x, if there is one: it is some offer's price
unfoldable pub next_price : Offers → ℕ → Option ℕ
next_price o x = least_where (λ i. ltb x (supply o (o.price i))) o.price o.count

-- the lesser of the curve price at X and the next price; the curve price alone if there is no next price; none when X is 0
unfoldable pub clearing_price : Demand → Offers → Option ℕ
clearing_price d o =
    let x = cleared_total d o in
    cond (eqb x 0) none (some (lesser (d.price x) (next_price o x)))
