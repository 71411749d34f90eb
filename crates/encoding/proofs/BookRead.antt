-- A book of good form is what its contents are written as.
--
-- In order: its blocks; block 0; the place of a row; a block of offers; the book.
-- Assumes nothing.
use mathlib.Core.Path.{◌≡◌, sym, ap, ap₂, ◌∙◌}
use mathlib.Core.Bool.{true}
use mathlib.Core.List.{List}
use Prim.Native.Nat.{ℕ, ◌+◌, ◌*◌, ◌/◌, ◌%◌, ◌<◌}
use native.Mathlib.Omega.{arith}
use lib.ListN.{length}
use Rattle.block.specs.Bytes.{byte}
use Rattle.block.specs.Check.{check_holds}
use Rattle.values.specs.Contents.{Contents, offer_at}
use Rattle.values.specs.declared.place.Offer.{Offer}
use Rattle.sections.specs.Blocks.{block_count, block_of, place_of, row_bytes}
use Rattle.sections.specs.Section.{blocks_for, rows_here, rows_hold}
use Rattle.sections.proofs.Parts.{block-length, row-length}
use Rattle.layout.specs.Form.{edition_of, offer_count, offers_section, form_fault}
use Rattle.layout.specs.Read.{row_offer, contents_of}
use Rattle.layout.proofs.Contained.{contents-edition, contents-parameters, contents-count, contents-offer}
use Rattle.layout.proofs.Passing.{form-passed-head, form-passed-check, form-passed-block}
use Rattle.layout.proofs.Passing.{form-passed-blocks, form-passed-row, form-passed-used}
use Rattle.encoding.specs.Encode.{place_bytes, head_bytes, sealed, encode}
use Rattle.encoding.proofs.Digits.{Bytes}
use Rattle.encoding.proofs.Parts.{bytes_read, block-bytes, row-bytes}
use Rattle.encoding.proofs.PlaceRead.{place_read}
use Rattle.encoding.proofs.HeadRead.{head-back}
use Rattle.encoding.proofs.RowsRead.{rows_back}
use Rattle.encoding.proofs.Rows.{rows_block}
use Rattle.encoding.proofs.Book.{offers_here, length-offers_here, offers_here-most, offer-here}
use Rattle.encoding.proofs.Book.{first_block, encode-assembled}
use Rattle.values.specs.Refusals.{no_fault}

module _ (b : List ℕ) (bytes : (i : ℕ) → i < length b → byte b i < 256) (passed : form_fault b ≡ no_fault) where
  abbrev c : Contents
  c = contents_of b

  abbrev offers : List Offer
  offers = (contents_of b).offers

  read : Bytes b
  read = bytes_read b bytes

  -- ---- its blocks

  block-whole : (k : ℕ) → k < 1 + blocks_for (offer_count b) → length (block_of b k) ≡ 512
  block-whole k l = block-length b k (omega (arith, form-passed-blocks b passed))

  block-check : (k : ℕ) → k < 1 + blocks_for (offer_count b) → check_holds (block_of b k) ≡ true
  block-check k l = form-passed-check b passed k (omega (arith, form-passed-blocks b passed))

  -- ---- block 0

  first_back : first_block c ≡ block_of b 0
  first_back =
      (λ i. sealed (head_bytes (sym (contents-edition b) i) (sym (contents-parameters b) i) (sym (contents-count b) i)))
      ∙ head-back (block_of b 0) (block-whole 0 (omega arith)) (block-bytes b read 0) (block_count b)
      (form-passed-head b passed) (block-check 0 (omega arith))

  -- ---- a row

  row_back : (row : ℕ) → row < offer_count b → place_bytes (edition_of b) (offer_at offers row) ≡ row_bytes b 1 row
  unfolding row_offer
  row_back row l =
      ap (place_bytes (edition_of b)) (contents-offer b row l)
      ∙ place_read (edition_of b) (row_bytes b 1 row) (row-length b 1 row (form-passed-row b passed row l)) (row-bytes b read 1 row)
      (form-passed-used b passed row l)

  -- ---- a block of offers

  module _ (j : ℕ) (there : j < blocks_for (offer_count b)) where
    abbrev here : List Offer
    here = offers_here offers j

    length-here : length here ≡ rows_here (offer_count b) j
    length-here = length-offers_here offers j ∙ ap (λ (n : ℕ). rows_here n j) (sym (contents-count b))

    place-back : (i : ℕ) → i < length here → place_bytes (edition_of b) (offer_at here i) ≡ place_of (block_of b (1 + j)) i
    unfolding row_bytes
    place-back i l =
        let block : (j * 15 + i) / 15 ≡ j = omega (arith, length-here) in
        let place : (j * 15 + i) % 15 ≡ i = omega (arith, length-here) in
        ap (place_bytes (edition_of b)) (offer-here c j i (omega (arith, length-here)))
        ∙ row_back (j * 15 + i) (omega (arith, length-here))
        ∙ ap₂ (λ (k n : ℕ). place_of (block_of b (1 + k)) n) block place

    block_back : rows_block (edition_of b) (1 + j) here ≡ block_of b (1 + j)
    block_back =
        rows_back b (block_of b (1 + j)) (1 + j) here
        (block-whole (1 + j) (omega arith)) (block-bytes b read (1 + j)) (offers_here-most offers j)
        (ap (rows_hold (offers_section b) (block_of b (1 + j)) (1 + j)) length-here ∙ form-passed-block b passed j there)
        place-back
        (block-check (1 + j) (omega arith))

  -- ---- the book

  -- Writing back what was read from a book that passes 1, 2 and 3 gives the same bytes.
  pub encode-read : encode (contents_of b) ≡ b
  encode-read =
      encode-assembled c b
      (omega (arith, form-passed-blocks b passed, contents-count b))
      first_back
      (λ j l.
      ap (λ (e : ℕ). rows_block e (1 + j) (offers_here offers j)) (sym (contents-edition b))
      ∙ block_back j (omega (arith, contents-count b)))
