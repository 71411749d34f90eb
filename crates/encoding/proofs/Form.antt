-- The book that says given contents passes refusals 1, 2 and 3.
--
-- In order: the checks; the length; the edition and the number of offers; the layout; the form.
-- Assumes nothing.
use mathlib.Core.Path.{◌≡◌, sym, ap, ap₂, ◌∙◌}
use mathlib.Core.Bool.{true}
use mathlib.Core.List.{List}
use Prim.Native.Nat.{ℕ, zero, suc, ◌+◌, ◌*◌, ◌%◌, ◌<◌}
use native.Mathlib.Omega.{arith}
use lib.ListN.{length}
use borrow.Author.Tests.{le-leb, eq-eqb}
use Rattle.laws.proofs.Cases.{and-true}
use Rattle.block.specs.Check.{check_holds}
use Rattle.values.specs.Refusals.{wrong_length, wrong_check, wrong_layout, no_fault}
use Rattle.values.specs.Head.{edition_in, offers_in}
use Rattle.values.specs.Contents.{Contents, offer_at}
use Rattle.values.specs.declared.place.Offer.{Offer}
use Rattle.values.proofs.Firsts.{unless-true, and_then-next, first-all}
use Rattle.sections.specs.Blocks.{block_count, block_of}
use Rattle.sections.specs.Section.{blocks_for, rows_here, rows_hold, block_fault, section_fault}
use Rattle.layout.specs.Layout.{head_holds}
use Rattle.layout.specs.Form.{length_fault, check_fault, edition_of, offer_count, offers_section, layout_fault, form_fault}
use Rattle.encoding.specs.Encode.{encode}
use Rattle.encoding.specs.Widths.{OfferFits}
use Rattle.encoding.specs.inner.Fits.{StepFits, Fits}
use Rattle.encoding.proofs.Sealed.{sealed-holds}
use Rattle.encoding.proofs.Head.{length-head}
use Rattle.encoding.proofs.HeadHolds.{read-edition, read_count, head-holds}
use Rattle.encoding.proofs.Rows.{check-block}
use Rattle.encoding.proofs.RowsHold.{rows-hold}
use Rattle.encoding.proofs.Book.{offers_here, length-offers_here, offers_here-most, offer-here}
use Rattle.encoding.proofs.Book.{encode-length, encode-first, encode-block}

module _ (c : Contents) where
  abbrev b : List ℕ
  b = encode c

  abbrev rows : ℕ
  rows = length c.offers

  blocks : block_count b ≡ 1 + blocks_for rows
  blocks = omega (arith, encode-length c)

  -- ---- the checks

  check-at : (k : ℕ) → k < 1 + blocks_for rows → check_holds (block_of b k) ≡ true
  check-at zero l = ap check_holds (encode-first c) ∙ sealed-holds _ (length-head c.edition c.parameters rows)
  check-at (suc j) l =
      let number : suc j ≡ 1 + j = omega arith in
      ap (λ (k : ℕ). check_holds (block_of b k)) number
      ∙ ap check_holds (encode-block c j (omega arith))
      ∙ check-block c.edition (1 + j) (offers_here c.offers j) (offers_here-most c.offers j)

  -- Each block's check holds.
  pub encode-checks : check_fault b ≡ no_fault
  unfolding check_fault
  encode-checks =
      first-all _ (block_count b)
      (λ k l. unless-true (check_holds (block_of b k)) (wrong_check k) (check-at k (omega (arith, blocks))))

  module _ (fits : Fits c) where
    -- The length is one of a book.
    pub encode-whole : length_fault b ≡ no_fault
    unfolding length_fault
    encode-whole =
        let long = encode-length c in
        unless-true _ wrong_length
        (and-true _ _ (eq-eqb (length b % 512) 0 (omega arith))
        (and-true _ _ (le-leb 512 (length b) (omega arith)) (le-leb (length b) 20992 (omega (arith, fits.few)))))

    -- The edition that the book states is the one that was written.
    pub encode-edition : edition_of b ≡ c.edition
    encode-edition = ap edition_in (encode-first c) ∙ read-edition c.edition c.parameters rows fits.parameters fits.edition

    -- The number of offers that the book states is the number of those that were written.
    pub encode-count : offer_count b ≡ rows
    encode-count = ap offers_in (encode-first c) ∙ read_count c.edition c.parameters rows fits.parameters fits.edition fits.few

    -- ---- the layout

    head-part : head_holds (block_of b 0) (block_count b) ≡ true
    head-part = rw (encode-first c, blocks) (head-holds c.edition c.parameters rows fits.parameters fits.edition fits.few)

    fits-here : (j i : ℕ) → i < length (offers_here c.offers j) → OfferFits (offer_at (offers_here c.offers j) i)
    fits-here j i l =
        let here = length-offers_here c.offers j in
        rw (offer-here c j i (omega arith)) (fits.offers (j * 15 + i) (omega arith))

    steps-here : (j i : ℕ) → i < length (offers_here c.offers j) → StepFits c.edition (offer_at (offers_here c.offers j) i).step
    steps-here j i l =
        let here = length-offers_here c.offers j in
        rw (offer-here c j i (omega arith)) (fits.steps (j * 15 + i) (omega arith))

    block-part : (j : ℕ) → j < blocks_for rows → block_fault b (offers_section b) j ≡ no_fault
    unfolding block_fault
    block-part j l =
        let os : List Offer = offers_here c.offers j in
        let here : rows_here (offer_count b) j ≡ length os =
        ap (λ (n : ℕ). rows_here n j) encode-count ∙ sym (length-offers_here c.offers j) in
        unless-true _ (wrong_layout (1 + j))
        (ap₂ (λ (s : List ℕ) (n : ℕ). rows_hold (offers_section b) s (1 + j) n) (encode-block c j l) here
        ∙ rows-hold c.edition (1 + j) os (fits-here j) (steps-here j) b encode-edition (omega (arith, fits.few)) (offers_here-most c.offers j))

    section-part : section_fault b (offers_section b) ≡ no_fault
    unfolding section_fault
    section-part = first-all _ (blocks_for (offer_count b)) (λ j l. block-part j (rw encode-count at l))

    pub encode-layout : layout_fault b ≡ no_fault
    unfolding layout_fault
    encode-layout = and_then-next _ _ (unless-true _ (wrong_layout 0) head-part) ∙ section-part

    -- A book that is written passes 1, 2 and 3.
    pub encode-form : form_fault b ≡ no_fault
    unfolding form_fault
    encode-form = and_then-next _ _ encode-whole ∙ and_then-next _ _ encode-checks ∙ encode-layout
