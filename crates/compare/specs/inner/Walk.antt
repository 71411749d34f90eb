-- The next row at or below a price, and a row whose block lies within a book.
-- Assumes nothing.
use Rattle.std.specs.Prelude.{ℕ, ◌+◌, ◌*◌, ◌/◌, ◌≤◌, ◌<◌, ◌≡◌, true, List, length, drop}
use Rattle.values.specs.Contents.{offer_at}
use Rattle.values.specs.declared.place.Offer.{Offer}
use Rattle.call.specs.Losers.{to_price}
use Rattle.compare.specs.Comparison.{Standing, standing}

-- the offers at or below p from a row on
unfoldable pub standing_from : ℕ → List Offer → ℕ → List Standing
standing_from p offers row = standing p row (drop row offers)

-- r is the first row, from a row on, whose offer is at or below p, or the number of rows
pub record NextTo (p : ℕ) (offers : List Offer) (from r : ℕ) : Type 0 where
  pub least : from ≤ r
  pub most : r ≤ length offers
  -- between both no offer is at or below p
  pub none : standing_from p offers from ≡ standing_from p offers r
  pub there : r < length offers → to_price p (offer_at offers r).price ≡ true

-- the block of a row lies within the book
abbrev pub HasRow : List ℕ → ℕ → Type 0
HasRow b row = (1 + row / 15) * 512 + 512 ≤ length b
