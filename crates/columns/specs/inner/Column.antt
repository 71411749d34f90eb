-- The offers of a book as columns: what each list holds of row i.
-- Assumes nothing.
use Rattle.std.specs.Prelude.{ℕ, ◌≡◌, List, get_or}
use Rattle.laws.specs.Filled.{filled}
use Rattle.auction.specs.Offers.{Offers}
use Rattle.values.specs.Values.{held}
use Rattle.values.specs.inner.Values.{least_of}
use Rattle.values.specs.Contents.{offer_at}
use Rattle.values.specs.declared.place.Offer.{Offer}

module _ (offers : List Offer) (row : ℕ) where
  -- the price that is held, asked only of books whose prices are all given
  abbrev pub row_price : ℕ
  row_price = held (offer_at offers row).price

  abbrev pub row_quantity : ℕ
  row_quantity = (offer_at offers row).quantity

  -- the least that the row commits once any of it clears
  abbrev pub row_least : ℕ
  row_least = least_of (offer_at offers row).block

  abbrev pub row_resource : ℕ
  row_resource = (offer_at offers row).resource

  abbrev pub row_stamp : ℕ
  row_stamp = (offer_at offers row).stamp

  abbrev pub row_step : ℕ
  row_step = (offer_at offers row).step

-- a list that was `before` holds n rows of a column
abbrev pub Column : (ℕ → ℕ) → ℕ → List ℕ → List ℕ → Type 0
Column value n before after = after ≡ filled value n before

-- the first n rows of five columns as offers
abbrev pub rows_of : (prices quantities stamps resources steps : List ℕ) → ℕ → Offers
rows_of prices quantities stamps resources steps n =
    record {
      count = n;
      price = λ i. get_or prices i 0;
      quantity = λ i. get_or quantities i 0;
      stamp = λ i. get_or stamps i 0;
      resource = λ i. get_or resources i 0;
      step = λ i. get_or steps i 0;
    }
