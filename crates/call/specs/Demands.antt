-- What is asked of calls beyond the answer itself.
--
-- In order: a clearing in which nothing cleared; contents that differ in minimum blocks alone, and calls that clear alike;
-- contents with one more offer.
-- Assumes nothing.
use Rattle.std.specs.Prelude.{ℕ, ◌<◌, ◌≡◌, List, [], ◌∷◌, ◌++◌, length, get_or, None}
use Rattle.values.specs.Contents.{Contents, offer_at}
use Rattle.values.specs.declared.place.Offer.{Offer}
use Rattle.sale.specs.declared.Clearing.{Clearing}

-- a clearing in which nothing cleared: no price, and nothing to pay
pub record NothingCleared (k : Clearing) : Type 0 where
  pub no-price : k.price ≡ None
  pub no-make-whole : k.make_whole ≡ 0
  pub no-daily : k.daily ≡ 0
  pub no-year : k.year ≡ 0

-- the same but for sellers and minimum blocks
pub record SameOffer (o o' : Offer) : Type 0 where
  pub price : o.price ≡ o'.price
  pub quantity : o.quantity ≡ o'.quantity
  pub stamp : o.stamp ≡ o'.stamp
  pub resource : o.resource ≡ o'.resource
  pub step : o.step ≡ o'.step

-- the same parameters and, row for row, the same offers but for their minimum blocks
pub record SameButBlocks (c c' : Contents) : Type 0 where
  pub parameters : c.parameters ≡ c'.parameters
  pub count : length c.offers ≡ length c'.offers
  pub offers : (row : ℕ) → row < length c.offers → SameOffer (offer_at c.offers row) (offer_at c'.offers row)

-- two calls clear the same at the same price
pub record ClearAlike (k k' : Clearing) (cleared cleared' : List ℕ) (n : ℕ) : Type 0 where
  pub total : k.total ≡ k'.total
  pub price : k.price ≡ k'.price
  pub rows : (row : ℕ) → row < n → get_or cleared row 0 ≡ get_or cleared' row 0

-- the same parameters, and one more offer behind the others
pub record OneMoreOffer (c c' : Contents) : Type 0 where
  pub parameters : c.parameters ≡ c'.parameters
  pub more : Offer
  pub offers : c'.offers ≡ c.offers ++ (more ∷ [])
