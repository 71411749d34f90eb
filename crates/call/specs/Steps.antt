-- Ten price steps: what the rows of one resource are to one another in an accepted book, and contents that differ in the edition
-- alone.
--
-- In order: rows that stand together, and the row of step 1; contents with the same parameters and offers.
-- Assumes nothing.
use Rattle.std.specs.Prelude.{ℕ, ◌+◌, ◌-◌, ◌≤◌, ◌<◌, ◌≡◌, length}
use Rattle.values.specs.Values.{held}
use Rattle.values.specs.Contents.{Contents, offer_at}
use Rattle.values.specs.declared.place.Offer.{Offer}

-- the rows from i to j are neighbouring steps of one resource
pub record Together (offers : ℕ → Offer) (i j : ℕ) : Type 0 where
  -- every row from i to j has the resource of row i
  pub resource : (row : ℕ) → i ≤ row → row ≤ j → (offers row).resource ≡ (offers i).resource
  -- the steps are counted up from row to row
  pub step : (offers j).step ≡ (offers i).step + (j - i)
  -- and the price does not fall
  pub price : held (offers i).price ≤ held (offers j).price

-- the row of step 1 of a row's resource, which stands no later
pub record StepOne (offers : ℕ → Offer) (row : ℕ) : Type 0 where
  pub first : ℕ
  pub there : first ≤ row
  pub resource : (offers first).resource ≡ (offers row).resource
  pub step : (offers first).step ≡ 1

-- the same parameters and the same offers, every one of step 1: the editions alone may differ
pub record SameButEdition (c c' : Contents) : Type 0 where
  pub parameters : c.parameters ≡ c'.parameters
  pub offers : c.offers ≡ c'.offers
  pub step : (row : ℕ) → row < length c.offers → (offer_at c.offers row).step ≡ 1
