-- The cleared total and the tenth past it; the price and what sets it.
-- Assumes nothing.
use Rattle.std.specs.Prelude.{ℕ, Bool, cond, List, [], ◌∷◌, eqb, ltb, Some, None}
use Rattle.reasons.specs.declared.stop.Stop.{Stop}
use Rattle.wording.specs.Words.{absent, as_one, cents_of, price_word}
use Rattle.lines.specs.Sold.{total_word}
use Rattle.pricing.specs.Price.{ClearingPrice}
use Rattle.reasons.specs.Stop.{Next}

-- whether there is a tenth past the total or none, the curve price there, and what is offered up to it
abbrev pub next_numbers : Next → List ℕ
next_numbers (Some tenth) = 0 ∷ tenth.price.0 ∷ tenth.offered ∷ []
next_numbers None = 1 ∷ absent ∷ absent ∷ []

unfoldable pub total_numbers : Stop → ℕ → List ℕ
total_numbers s offers =
    s.level.total
    ∷ total_word s.level.total offers
    ∷ s.curve.p1.0
    ∷ s.last.price.0
    ∷ s.last.offered
    ∷ next_numbers s.next

-- what sets a price: the curve, as no price has more than the total; or the lowest price that has more is under the curve price
-- at the total, over it, or the same
unfoldable pub setter : Bool → ℕ → ℕ → ℕ
setter more price curve_price = cond more (cond (ltb price curve_price) 1 (cond (ltb curve_price price) 2 3)) 0

unfoldable pub price_numbers : ClearingPrice → Stop → List ℕ
price_numbers price s =
    let more = ltb s.level.total s.level.reach in
    price_word price
    ∷ cents_of price
    ∷ cond (eqb (price_word price) 2) 2 (as_one more)
    ∷ s.level.price
    ∷ s.level.reach
    ∷ cond (eqb (price_word price) 2) 4 (setter more s.level.price s.last.price.0)
    ∷ []
