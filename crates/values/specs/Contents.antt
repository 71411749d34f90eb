-- What a book says, apart from the bytes that say it: its edition, the region's parameters, and its offers in the order of the rows.
-- Assumes nothing.
use Rattle.std.specs.Prelude.{ℕ, List, get_or}
use Rattle.values.specs.declared.Value.TheVariants.{Given, Missing}
use Rattle.values.specs.declared.head.Parameters.{Parameters}
use Rattle.values.specs.declared.place.Offer.{Offer}

pub record Contents : Type 0 where
  pub edition : ℕ
  pub parameters : Parameters
  pub offers : List Offer

-- what stands past the last row: an offer of nothing, which no definition looks at
abbrev pub no_offer : Offer
no_offer = record { resource = 0; seller = 0; price = Given 0; quantity = 0; block = Missing; stamp = 0; step = 0 }

-- the offer of a row, from 0
abbrev pub offer_at : List Offer → ℕ → Offer
offer_at offers row = get_or offers row no_offer
