-- The offers at a price or below, apart from the rows in which they stand, and an auction that losers do not move.
--
-- In order: the offers as a list; those at a price or below; what they sell; two auctions with the same sale up to a price.
-- Assumes nothing.
use Rattle.std.specs.Prelude.{◌≡◌, List, ℕ, ◌<◌, leb}
use Rattle.std.proofs.Math.Option.{some}
use Rattle.laws.specs.Lists.{list_of, those}
use Rattle.auction.specs.Offers.{Offers, Demand}
use Rattle.auction.specs.Clearing.{cleared_total, clearing_price}
use Rattle.auction.specs.Shares.{cleared}

-- an offer as one value: all that an auction knows of it, but not the row in which it stands
pub record Row : Type 0 where
  pub price : ℕ
  pub quantity : ℕ
  pub stamp : ℕ
  pub resource : ℕ
  pub step : ℕ

abbrev pub row_of : Offers → ℕ → Row
row_of o i =
    record { price = o.price i; quantity = o.quantity i; stamp = o.stamp i; resource = o.resource i; step = o.step i }

-- the offers at the price p or below, in the order of their rows
unfoldable pub rows_at_or_below : ℕ → Offers → List Row
rows_at_or_below p o = those (λ r. leb r.price p) (list_of (row_of o) o.count)

-- an offer and what it clears
pub record Sold : Type 0 where
  pub row : Row
  pub tenths : ℕ

-- the offers at the price p or below, in the order of their rows, each with what it clears
unfoldable pub sold_at_or_below : ℕ → Demand → Offers → List Sold
sold_at_or_below p d o =
    those (λ s. leb s.row.price p)
    (list_of (λ i. record { row = row_of o i; tenths = cleared o (cleared_total d o) i }) o.count)

-- from o to o' nothing moves that is sold at the price p
pub record Unmoved (d : Demand) (o o' : Offers) (p : ℕ) : Type 0 where
  -- the cleared total is the same
  pub total : cleared_total d o ≡ cleared_total d o'
  -- the clearing price of both is p
  pub price : clearing_price d o' ≡ some p
  -- the offers at p or below clear the same, each its own amount
  pub sold : sold_at_or_below p d o ≡ sold_at_or_below p d o'
  -- every other offer is above p and clears nothing, in o and in o'
  pub nothing : (i : ℕ) → p < o.price i → cleared o (cleared_total d o) i ≡ 0
  pub nothing' : (i : ℕ) → p < o'.price i → cleared o' (cleared_total d o') i ≡ 0
