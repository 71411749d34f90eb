-- Offers whose numbers fit the bytes that a book has for them: each is under the bound of its width. What a caller's structs hold
-- does, by their types.
--
-- In order: a value; an offer; all offers.
-- Assumes nothing.
use Rattle.std.specs.Prelude.{ℕ, ◌<◌, List, length}
use Rattle.values.specs.Values.{held}
use Rattle.values.specs.Contents.{offer_at}
use Rattle.values.specs.declared.Value.{Value}
use Rattle.values.specs.declared.place.Offer.{Offer}

-- a number that is given is one of 32 bits
abbrev pub ValueFits : Value → Type 0
ValueFits v = held v < 4294967296

pub record OfferFits (o : Offer) : Type 0 where
  pub resource : o.resource < 4294967296
  pub seller : o.seller < 4294967296
  pub price : ValueFits o.price
  pub quantity : o.quantity < 4294967296
  pub block : ValueFits o.block
  pub stamp : o.stamp < 18446744073709551616

-- the offer of each row fits
abbrev pub OffersFit : List Offer → Type 0
OffersFit offers = (row : ℕ) → row < length offers → OfferFits (offer_at offers row)
