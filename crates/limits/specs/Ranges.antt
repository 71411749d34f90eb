-- The outline's table of ranges, as sentences on the values that passed the tests.
-- Assumes nothing.
use Rattle.std.specs.Prelude.{◌≡◌, ℕ, ◌≤◌}
use Rattle.values.specs.Values.{held}
use Rattle.values.specs.declared.Value.TheVariants.{Given, Missing}
use Rattle.values.specs.declared.head.Parameters.{Parameters}
use Rattle.values.specs.declared.place.Offer.{Offer}

-- Parameters that clearing accepts: each that the year needs is given, and all are within their ranges.
pub record Ranged (p : Parameters) : Type 0 where
  pub year-from : 2022 ≤ p.year
  pub year-to : p.year ≤ 2099
  pub cost-given : p.cost ≡ Given (held p.cost)
  pub cost-from : 1 ≤ held p.cost
  pub cost-to : held p.cost ≤ 1000000
  pub offset-given : p.offset ≡ Given (held p.offset)
  pub offset-to : held p.offset ≤ held p.cost
  pub outage-given : p.outage ≡ Given (held p.outage)
  pub outage-to : held p.outage ≤ 5000
  pub requirement-given : p.requirement ≡ Given (held p.requirement)
  pub requirement-from : 1000 ≤ held p.requirement
  pub requirement-to : held p.requirement ≤ 2000000
  -- up to 2025 there is a margin, of 50 percent at most
  pub margin-given : p.year ≤ 2025 → p.margin ≡ Given (held p.margin)
  pub margin-to : p.year ≤ 2025 → held p.margin ≤ 5000
  -- and from 2026 on there is none
  pub margin-none : 2026 ≤ p.year → p.margin ≡ Missing

-- An offer of a sound book: the values that it gives are within their ranges. With no minimum block it is flexible.
pub record SoundOffer (o : Offer) : Type 0 where
  pub resource-from : 1 ≤ o.resource
  pub seller-from : 1 ≤ o.seller
  pub price-to : (price : ℕ) → o.price ≡ Given price → price ≤ 1000000
  pub quantity-from : 1 ≤ o.quantity
  pub quantity-to : o.quantity ≤ 200000
  pub block-from : (block : ℕ) → o.block ≡ Given block → 1 ≤ block
  pub block_to : (block : ℕ) → o.block ≡ Given block → block ≤ o.quantity
  pub step_from : 1 ≤ o.step
  pub step-to : o.step ≤ 10

-- An offer that clearing accepts has a price as well.
pub record PricedOffer (o : Offer) : Type 0 where
  pub sound : SoundOffer o
  pub price-given : o.price ≡ Given (held o.price)
  pub price-most : held o.price ≤ 1000000
