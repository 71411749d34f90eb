-- The numbers of a row in full, and of a resource's steps together.
-- Assumes nothing.
use Rattle.std.specs.Prelude.{ℕ, ◌-◌, List, [], ◌∷◌, eqb, ltb}
use Rattle.values.specs.Values.{held}
use Rattle.values.specs.declared.place.Offer.{Offer}
use Rattle.reasons.specs.declared.share.Share.{Share}
use Rattle.wording.specs.Words.{as_one, first_true, given, valued, cents_of}
use Rattle.rowlines.specs.RowWords.{reason}
use Rattle.pricing.specs.Price.{ClearingPrice}

unfoldable pub rows_head_numbers : List ℕ
rows_head_numbers = []

unfoldable pub offer_numbers : (edition row : ℕ) → Offer → List ℕ
offer_numbers edition row o =
    row
    ∷ as_one (eqb edition 2) ∷ o.step
    ∷ o.resource
    ∷ o.quantity
    ∷ valued o.price ∷ held o.price
    ∷ o.seller
    ∷ as_one (given o.block) ∷ held o.block
    ∷ o.stamp
    ∷ []

unfoldable pub part_numbers : ℕ → Share → List ℕ
part_numbers quantity s =
    s.amount ∷ s.sum
    ∷ first_true (eqb s.amount 0) (eqb s.amount s.sum) ∷ quantity ∷ s.amount ∷ s.sum ∷ s.down ∷ s.remainder
    ∷ []

unfoldable pub settled_numbers : ClearingPrice → (cleared committed mills : ℕ) → List ℕ
settled_numbers price cleared committed mills =
    cleared ∷ committed
    ∷ as_one (ltb cleared committed)
    ∷ reason (ltb 0 mills) (eqb cleared 0) (ltb cleared committed) ∷ mills ∷ cents_of price ∷ (committed - cleared)
    ∷ []

unfoldable pub together_numbers : (resource steps cleared offered : ℕ) → List ℕ
together_numbers resource steps cleared offered = resource ∷ steps ∷ cleared ∷ offered ∷ []
