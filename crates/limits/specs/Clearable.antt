-- What is known of contents that have passed the refusals of clearing.
-- Assumes nothing.
use Rattle.std.specs.Prelude.{◌≡◌, ℕ, ◌≤◌, ◌<◌, length}
use Rattle.values.specs.Contents.{Contents, offer_at}
use Rattle.limits.specs.Ranges.{Ranged, PricedOffer}

pub record Clearable (c : Contents) : Type 0 where
  pub few : length c.offers ≤ 600
  -- every parameter is given and within its range
  pub parameters : Ranged c.parameters
  -- every offer has a price, and values within their ranges
  pub priced : (row : ℕ) → row < length c.offers → PricedOffer (offer_at c.offers row)
  -- no two rows have one resource number and one step
  pub distinct : (row other : ℕ) → row < length c.offers → other < length c.offers
      → (offer_at c.offers row).resource ≡ (offer_at c.offers other).resource
      → (offer_at c.offers row).step ≡ (offer_at c.offers other).step
      → row ≡ other
