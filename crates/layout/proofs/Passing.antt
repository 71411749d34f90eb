-- What it means for later code that a book passed refusals 1, 2 and 3.
--
-- In order: each of the three passed; each block's check and layout; the book's length,
-- its edition, the number of its offers, and how they fit; where a row's block stands; that the row's own bytes are laid out as a used place.
-- Assumes nothing.
use mathlib.Core.Path.{◌≡◌}
use mathlib.Core.Bool.{true}
use mathlib.Core.List.{List}
use Prim.Native.Nat.{ℕ, ◌+◌, ◌*◌, ◌/◌, ◌≤◌, ◌<◌}
use native.Mathlib.Omega.{arith}
use lib.ListN.{length}
use Rattle.block.specs.Check.{check_holds}
use Rattle.values.specs.Refusals.{unless, and_then, wrong_layout, no_fault}
use Rattle.values.specs.declared.refusal.Refusal.TheVariants.{WrongCheck, WrongLayout}
use Rattle.values.proofs.Firsts.{unless-passed, and_then-left, and_then-right, first-at}
use Rattle.sections.specs.Blocks.{block_count, block_of, row_bytes}
use Rattle.sections.specs.Section.{blocks_for, rows_here, used_holds, rows_hold, section_fault}
use Rattle.sections.proofs.Passing.{section-passed-block, section-passed-used}
use Rattle.layout.specs.Layout.{edition_known, head_holds}
use Rattle.layout.specs.Form.{length_fault, check_fault, edition_of, offer_count, offers_last, offers_section, layout_fault, form_fault}
use Rattle.layout.proofs.Holding.{LengthHolds, length-holds, CountHolds, head-edition, head-holds}

module _ (b : List ℕ) (passed : form_fault b ≡ no_fault) where
  -- each of the three passed
  length_part : LengthHolds (length b)
  unfolding form_fault
  length_part = length-holds b (and_then-left (length_fault b) (and_then (check_fault b) (layout_fault b)) passed)

  layout-part : layout_fault b ≡ no_fault
  unfolding form_fault
  layout-part =
      and_then-right (check_fault b) (layout_fault b)
      (and_then-right (length_fault b) (and_then (check_fault b) (layout_fault b)) passed)

  section-part : section_fault b (offers_section b) ≡ no_fault
  unfolding layout_fault
  section-part = and_then-right (unless (head_holds (block_of b 0) (block_count b)) (wrong_layout 0)) _ layout-part

  -- each block's check holds
  pub form-passed-check : (k : ℕ) → k < block_count b → check_holds (block_of b k) ≡ true
  unfolding form_fault check_fault
  form-passed-check k l =
      let checks : check_fault b ≡ no_fault =
      and_then-left (check_fault b) (layout_fault b)
      (and_then-right (length_fault b) (and_then (check_fault b) (layout_fault b)) passed) in
      unless-passed (check_holds (block_of b k)) (WrongCheck k) (first-at _ (block_count b) k checks l)

  -- block 0 holds, and so does each offer block
  pub form-passed-head : head_holds (block_of b 0) (block_count b) ≡ true
  unfolding layout_fault
  form-passed-head = unless-passed (head_holds (block_of b 0) (block_count b)) (WrongLayout 0) (and_then-left _ _ layout-part)

  pub form-passed-block : (j : ℕ) → j < blocks_for (offer_count b)
      → rows_hold (offers_section b) (block_of b (1 + j)) (1 + j) (rows_here (offer_count b) j) ≡ true
  form-passed-block = section-passed-block b (offers_section b) section-part

  count-part : CountHolds (block_count b) (offer_count b)
  count-part = head-holds (block_of b 0) (block_count b) form-passed-head

  -- the book has one block at least
  pub form-passed-length : 512 ≤ length b
  form-passed-length = length_part.least

  -- it states an edition that books have
  pub form-passed-edition : edition_known (edition_of b) ≡ true
  form-passed-edition = head-edition (block_of b 0) (block_count b) form-passed-head

  -- it states at most 600 offers
  pub form-passed-count : offer_count b ≤ 600
  form-passed-count = count-part.most

  -- it has as many blocks as its offers need, and nothing after them
  pub form-passed-blocks : length b ≡ 512 * (1 + blocks_for (offer_count b))
  form-passed-blocks = omega (arith, length_part, count-part)

  -- the block of each of its rows is inside it
  pub form-passed-row : (row : ℕ) → row < offer_count b → (1 + row / 15) * 512 + 512 ≤ length b
  form-passed-row row l = omega (arith, form-passed-blocks)

  -- each row's own bytes are laid out as a used place
  pub form-passed-used : (row : ℕ) → row < offer_count b → used_holds (offers_last (edition_of b)) (row_bytes b 1 row) ≡ true
  form-passed-used = section-passed-used b (offers_section b) section-part
