-- The book that says given contents, cut into its blocks again.
--
-- In order: the offers of a block; how long the blocks of offers are, and which stands at which place; the length of the book;
-- block 0; a block of offers; the bytes of a row; the book put together from its blocks.
-- Assumes nothing.
use mathlib.Core.Path.{◌≡◌, refl, sym, ap, ap₂, ◌∙◌}
use mathlib.Core.List.{List}
use Prim.Native.Nat.{ℕ, zero, suc, ◌+◌, ◌*◌, ◌/◌, ◌%◌, ◌≤◌, ◌<◌}
use native.Mathlib.Nat.{add-zero}
use native.Mathlib.Omega.{arith}
use lib.ListN.{length, take, drop, length-append, length-take, length-drop}
use lib.Seq.{drop-drop}
use Rattle.values.specs.Contents.{Contents, no_offer, offer_at}
use Rattle.values.specs.declared.place.Offer.{Offer}
use Rattle.sections.specs.Blocks.{block_of, place_of, row_bytes}
use Rattle.sections.specs.Section.{blocks_for, rows_here}
use Rattle.encoding.specs.Encode.{place_bytes, row_blocks, encode}
use Rattle.encoding.proofs.Cuts.{part, part-here, part-past, get_d_part}
use Rattle.encoding.proofs.Sealed.{length-sealed}
use Rattle.encoding.proofs.Parts.{same_blocks}
use Rattle.encoding.proofs.Head.{head_block, length-head}
use Rattle.encoding.proofs.Rows.{rows_block, length-block, place-written}

-- the offers of block j of theirs, from 0
abbrev pub offers_here : List Offer → ℕ → List Offer
offers_here offers j = part offers (j * 15) 15

pub length-offers_here : (offers : List Offer) (j : ℕ) → length (offers_here offers j) ≡ rows_here (length offers) j
length-offers_here offers j = length-take 15 (drop (j * 15) offers) ∙ simp length-drop

-- a block has at most fifteen
pub offers_here-most : (offers : List Offer) (j : ℕ) → length (offers_here offers j) ≤ 15
offers_here-most offers j = omega (arith, length-offers_here offers j)

-- the first block of offers, and the length of it
first-length : (edition k : ℕ) (offers : List Offer) → length (rows_block edition k (take 15 offers)) ≡ 512
first-length edition k offers = length-block edition k (take 15 offers) (offers_here-most offers 0)

-- ---- the blocks of offers

pub length-row_blocks : (edition blocks k : ℕ) (offers : List Offer) → length (row_blocks edition blocks k offers) ≡ blocks * 512
unfolding row_blocks
length-row_blocks edition zero k offers = refl
length-row_blocks edition (suc blocks) k offers =
    length-append (rows_block edition k (take 15 offers)) (row_blocks edition blocks (suc k) (drop 15 offers))
    ∙ ap₂ ◌+◌ (first-length edition k offers) (length-row_blocks edition blocks (suc k) (drop 15 offers))
    ∙ omega arith

-- block j of them has number k + j, and the offers of block j
row_blocks-at : (edition blocks k : ℕ) (offers : List Offer) (j : ℕ) → j < blocks
    → part (row_blocks edition blocks k offers) (j * 512) 512 ≡ rows_block edition (k + j) (offers_here offers j)
unfolding row_blocks
row_blocks-at edition zero k offers j l = absurd (omega arith)
row_blocks-at edition (suc blocks) k offers zero l =
    part-here (rows_block edition k (take 15 offers)) _ 512 (first-length edition k offers)
    ∙ ap (λ (n : ℕ). rows_block edition n (take 15 offers)) (sym (add-zero k))
row_blocks-at edition (suc blocks) k offers (suc j) l =
    let further : suc j * 512 ≡ 512 + j * 512 = omega arith in
    let number : suc k + j ≡ k + suc j = omega arith in
    let later : 15 + j * 15 ≡ suc j * 15 = omega arith in
    ap (λ (at : ℕ). part (row_blocks edition (suc blocks) k offers) at 512) further
    ∙ part-past (rows_block edition k (take 15 offers)) _ 512 (j * 512) 512 (first-length edition k offers)
    ∙ row_blocks-at edition blocks (suc k) (drop 15 offers) j (omega arith)
    ∙ ap₂ (λ (n : ℕ) (os : List Offer). rows_block edition n (take 15 os)) number
    (drop-drop (j * 15) 15 offers ∙ ap (λ (at : ℕ). drop at offers) later)

-- ---- the book

module _ (c : Contents) where
  abbrev offers : List Offer
  offers = c.offers

  abbrev pub first_block : List ℕ
  first_block = head_block c.edition c.parameters (length offers)

  length-first : length first_block ≡ 512
  length-first = length-sealed _ (length-head c.edition c.parameters (length offers))

  -- The book has block 0 and as many blocks as its offers need, and nothing after them.
  pub encode-length : length (encode c) ≡ 512 * (1 + blocks_for (length offers))
  unfolding encode
  encode-length =
      length-append first_block (row_blocks c.edition (blocks_for (length offers)) 1 offers)
      ∙ omega (arith, length-first, length-row_blocks c.edition (blocks_for (length offers)) 1 offers)

  pub encode-first : block_of (encode c) 0 ≡ first_block
  unfolding encode block_of
  encode-first = part-here first_block _ 512 length-first

  pub encode-block : (j : ℕ) → j < blocks_for (length offers)
      → block_of (encode c) (1 + j) ≡ rows_block c.edition (1 + j) (offers_here offers j)
  unfolding encode block_of
  encode-block j l =
      let further : (1 + j) * 512 ≡ 512 + j * 512 = omega arith in
      ap (λ (at : ℕ). part (encode c) at 512) further
      ∙ part-past first_block _ 512 (j * 512) 512 length-first
      ∙ row_blocks-at c.edition (blocks_for (length offers)) 1 offers j l

  -- the offer of a row, in the block where it stands
  pub offer-here : (j i : ℕ) → i < 15 → offer_at (offers_here offers j) i ≡ offer_at offers (j * 15 + i)
  offer-here j i l = get_d_part offers (j * 15) 15 i no_offer l

  -- The bytes of a row are those that its offer is written as.
  pub encode-row : (row : ℕ) → row < length offers → row_bytes (encode c) 1 row ≡ place_bytes c.edition (offer_at offers row)
  unfolding row_bytes
  encode-row row l =
      let j : ℕ = row / 15 in
      let i : ℕ = row % 15 in
      let here : row / 15 * 15 + row % 15 ≡ row = omega arith in
      ap (λ (s : List ℕ). place_of s i) (encode-block j (omega arith))
      ∙ place-written c.edition (1 + j) (offers_here offers j) i (omega (arith, length-offers_here offers j))
      ∙ ap (place_bytes c.edition) (offer-here j i (omega arith) ∙ ap (offer_at offers) here)

  -- A book of so many blocks that are those of these contents is the one that says them.
  pub encode-assembled : (b : List ℕ) → length b ≡ 512 * (1 + blocks_for (length offers)) → first_block ≡ block_of b 0
      → ((j : ℕ) → j < blocks_for (length offers) → rows_block c.edition (1 + j) (offers_here offers j) ≡ block_of b (1 + j))
      → encode c ≡ b
  encode-assembled b whole first rest = same_blocks (encode c) b (1 + blocks_for (length offers)) encode-length whole each
    where
      each : (k : ℕ) → k < 1 + blocks_for (length offers) → block_of (encode c) k ≡ block_of b k
      each zero l = encode-first ∙ first
      each (suc j) l =
          let number : suc j ≡ 1 + j = omega arith in
          let there : j < blocks_for (length offers) = omega arith in
          rw number (encode-block j there ∙ rest j there)
