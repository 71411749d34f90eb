-- What the decoder makes of a book.
--
-- In order: how many offers are made of rows, and which stands at a row; the edition and the parameters of a book, how many offers it has, and
-- that they are those of its rows.
-- Assumes nothing.
use mathlib.Core.Path.{◌≡◌, refl, sym}
use mathlib.Core.List.{List}
use Prim.Native.Nat.{ℕ, ◌<◌}
use lib.ListN.{length}
use Rattle.laws.proofs.Listing.{length-list_of, get_d-list_of}
use Rattle.values.specs.Head.{parameters_of}
use Rattle.values.specs.Place.{offer_of}
use Rattle.values.specs.Contents.{no_offer, offer_at}
use Rattle.values.specs.declared.place.Offer.{Offer}
use Rattle.sections.specs.Blocks.{block_of, row_bytes}
use Rattle.layout.specs.Form.{edition_of, offer_count}
use Rattle.layout.specs.Read.{row_offer, row_offers, contents_of}

module _ (b : List ℕ) (edition first n : ℕ) where
  pub length-row_offers : length (row_offers b edition first n) ≡ n
  unfolding row_offers
  length-row_offers = length-list_of (row_offer b edition first) n

  -- the offer at a row is the row's own
  pub offer_at-row_offers : (row : ℕ) → row < n → offer_at (row_offers b edition first n) row ≡ row_offer b edition first row
  unfolding row_offers
  offer_at-row_offers row l = get_d-list_of (row_offer b edition first) n row no_offer l

  -- what a row's own bytes hold is the row's offer
  pub offer-of-row : (row : ℕ) {part : List ℕ} {o : Offer} → row < n → part ≡ row_bytes b first row
      → o ≡ offer_of edition part → o ≡ offer_at (row_offers b edition first n) row
  unfolding row_offer
  offer-of-row row l p e = rw (e, p) (sym (offer_at-row_offers row l))

module _ (b : List ℕ) where
  pub contents-parameters : parameters_of (block_of b 0) ≡ (contents_of b).parameters
  unfolding contents_of
  contents-parameters = refl

  pub contents-edition : edition_of b ≡ (contents_of b).edition
  unfolding contents_of
  contents-edition = refl

  pub contents-offers : row_offers b (edition_of b) 1 (offer_count b) ≡ (contents_of b).offers
  unfolding contents_of
  contents-offers = refl

  pub contents-count : offer_count b ≡ length (contents_of b).offers
  unfolding contents_of
  contents-count = sym (length-row_offers b (edition_of b) 1 (offer_count b))

  -- the offer of a row that is there
  pub contents-offer : (row : ℕ) → row < offer_count b → offer_at (contents_of b).offers row ≡ row_offer b (edition_of b) 1 row
  unfolding contents_of
  contents-offer row l = offer_at-row_offers b (edition_of b) 1 (offer_count b) row l
