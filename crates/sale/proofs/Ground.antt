-- The auction of contents that can be cleared stands on firm ground: its curve never rises, every row offers something, and no
-- two rows have one resource number and one step.
-- Assumes nothing.
use Rattle.auction.specs.Offers.{Falling, Proper}
use Rattle.values.specs.Contents.{Contents}
use Rattle.limits.specs.Clearable.{Clearable}
use Rattle.curve.specs.Shape.{Shaped}
use Rattle.region.specs.Region.{region_curve}
use Rattle.region.proofs.Regions.{region-shaped, region-falls}
use Rattle.sale.specs.Auction.{offers_of, demand}

module _ (c : Contents) (ok : Clearable c) where
  pub clearable-shaped : Shaped (region_curve c.parameters)
  clearable-shaped = region-shaped c.parameters ok.parameters

  pub clearable-falls : Falling (demand c)
  clearable-falls = region-falls c.parameters ok.parameters

  pub clearable-proper : Proper (offers_of c.offers)
  unfolding offers_of
  clearable-proper = record { positive = λ i l. (ok.priced i l).sound.quantity-from; distinct = ok.distinct }
