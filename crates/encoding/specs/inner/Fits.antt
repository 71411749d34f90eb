-- Contents that fit the bytes of a book: an edition that books have, as many offers as it has places for, each number
-- under the bound of its bytes, and each step one that the edition has a byte for.
--
-- In order: the parameters; a step; the contents.
-- Assumes nothing.
use Rattle.std.specs.Prelude.{ℕ, ◌≤◌, ◌<◌, ◌≡◌, true, length}
use Rattle.values.specs.Contents.{Contents, offer_at}
use Rattle.values.specs.declared.head.Parameters.{Parameters}
use Rattle.layout.specs.Layout.{edition_known}
use Rattle.encoding.specs.Widths.{ValueFits, OffersFit}

pub record ParametersFit (p : Parameters) : Type 0 where
  pub year : p.year < 65536
  pub cost : ValueFits p.cost
  pub offset : ValueFits p.offset
  pub outage : ValueFits p.outage
  pub requirement : ValueFits p.requirement
  pub margin : ValueFits p.margin

pub record StepFits (edition step : ℕ) : Type 0 where
  -- in edition 1 it is 1
  pub one : edition ≡ 1 → step ≡ 1
  -- it is a byte
  pub byte : step < 256

pub record Fits (c : Contents) : Type 0 where
  -- books have the edition
  pub edition : edition_known c.edition ≡ true
  -- there are at most 600 offers
  pub few : length c.offers ≤ 600
  -- the parameters fit, and so does the offer of each row
  pub parameters : ParametersFit c.parameters
  pub offers : OffersFit c.offers
  -- the edition has a byte for the step of each row
  pub steps : (row : ℕ) → row < length c.offers → StepFits c.edition (offer_at c.offers row).step
