-- The decoder: what a book of bytes says.
--
-- In order: the offers of rows that stand from a given block on; what a book says.
-- Assumes nothing.
use Rattle.std.specs.Prelude.{ℕ, List}
use Rattle.laws.specs.Lists.{list_of}
use Rattle.values.specs.Head.{parameters_of}
use Rattle.values.specs.Place.{offer_of}
use Rattle.values.specs.Contents.{Contents}
use Rattle.values.specs.declared.place.Offer.{Offer}
use Rattle.sections.specs.Blocks.{block_of, row_bytes}
use Rattle.layout.specs.Form.{edition_of, offers_section}

-- the offer of a row by the rule of an edition, where the first row stands in the block `first`, and the offers of n rows
unfoldable pub row_offer : List ℕ → ℕ → ℕ → ℕ → Offer
row_offer b edition first row = offer_of edition (row_bytes b first row)

unfoldable pub row_offers : List ℕ → ℕ → ℕ → ℕ → List Offer
row_offers b edition first n = list_of (row_offer b edition first) n

-- what a book says: the edition and the parameters of block 0, and the offers of their section, row by row
unfoldable pub contents_of : List ℕ → Contents
contents_of b =
    let section = offers_section b in
    record {
      edition = edition_of b;
      parameters = parameters_of (block_of b 0);
      offers = row_offers b (edition_of b) section.first section.rows;
    }
