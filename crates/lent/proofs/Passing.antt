-- A row that passes alone is refused by neither 7 nor 10, and the draft past it is told from its numbers.
-- Assumes nothing.
use mathlib.Core.Path.{◌≡◌, refl, ◌∙◌}
use mathlib.Core.Bool.{Bool, true, false, ◌&&◌}
use Prim.Native.Nat.{ℕ}
use native.Mathlib.Omega.{arith}
use lib.Dec.{eqb, leb}
use borrow.Author.Tests.{eqb-true, le-leb}
use Rattle.laws.proofs.Cases.{by-test, and-true, and_left, and_right}
use Rattle.values.specs.declared.Value.TheVariants.{Given}
use Rattle.values.specs.declared.place.Offer.{Offer}
use Rattle.values.proofs.Firsts.{unless-true}
use Rattle.limits.specs.Parameters.{within, given_within}
use Rattle.limits.specs.Offers.{step_within, offer_in_range, offer_fault}
use Rattle.limits.specs.inner.Rows.{row_fault}
use Rattle.limits.proofs.Tested.{row_fault-first}
use Rattle.plain.specs.Given.{value_in, offer_in}
use Rattle.plain.specs.declared.structs.OzpValue.{OzpValue}
use Rattle.plain.specs.declared.structs.OzpRow.{OzpRow}
use Rattle.lent.specs.inner.Alone.{price_passes, block_passes, passes_alone}
use Rattle.lent.specs.inner.Drafts.{offer_before, tested_row}
use Rattle.lent.specs.declared.tested.Draft.{Draft}
use Rattle.values.specs.Refusals.{no_fault}

-- a price that passes is given
price-in : (price : OzpValue) → price_passes price ≡ true → value_in price ≡ Given price.number
unfolding value_in
price-in price e = rw (eqb-true price.kind 1 (and_left (eqb price.kind 1) _ e)) refl

price-within : (price : OzpValue) → price_passes price ≡ true → given_within 0 1000000 (value_in price) ≡ true
price-within price e =
    rw (price-in price e)
    (and-true (leb 0 price.number) _ (le-leb 0 price.number (omega arith)) (and_right (eqb price.kind 1) _ e))

block_within : (block : OzpValue) (quantity : ℕ) → block_passes block quantity ≡ true → given_within 1 quantity (value_in block) ≡ true
unfolding value_in
block_within block quantity e =
    by-test (eqb block.kind 4)
    (λ t. rw (eqb-true block.kind 4 t) refl)
    (λ t.
    let given : eqb block.kind 1 && within 1 quantity block.number ≡ true = rw t at e in
    rw (eqb-true block.kind 1 (and_left (eqb block.kind 1) _ given)) (and_right (eqb block.kind 1) _ given))

step-one : (edition step : ℕ) → step ≡ 1 → step_within edition step ≡ true
step-one edition step e = rw e (by-test (eqb edition 1) (λ t. rw t refl) (λ t. rw t refl))

module _ (row : OzpRow) (passes : passes_alone row ≡ true) where
  abbrev rest : Bool
  rest = within 1 200000 row.quantity && (block_passes row.block row.quantity && eqb row.step 1)

  from-seller : leb 1 row.seller && (price_passes row.price && rest) ≡ true
  unfolding passes_alone
  from-seller = and_right (leb 1 row.resource) _ passes

  from-price : price_passes row.price && rest ≡ true
  from-price = and_right (leb 1 row.seller) _ from-seller

  from-quantity : rest ≡ true
  from-quantity = and_right (price_passes row.price) _ from-price

  from_block : block_passes row.block row.quantity && eqb row.step 1 ≡ true
  from_block = and_right (within 1 200000 row.quantity) _ from-quantity

  one : row.step ≡ 1
  one = eqb-true row.step 1 (and_right (block_passes row.block row.quantity) _ from_block)

  in-range : (edition : ℕ) → offer_in_range edition (offer_in row) ≡ true
  unfolding offer_in_range passes_alone
  in-range edition =
      and-true (leb 1 row.resource) _ (and_left (leb 1 row.resource) _ passes)
      (and-true (leb 1 row.seller) _ (and_left (leb 1 row.seller) _ from-seller)
      (and-true (given_within 0 1000000 (value_in row.price)) _ (price-within row.price (and_left (price_passes row.price) _ from-price))
      (and-true (within 1 200000 row.quantity) _ (and_left (within 1 200000 row.quantity) _ from-quantity)
      (and-true (given_within 1 row.quantity (value_in row.block)) _
      (block_within row.block row.quantity (and_left (block_passes row.block row.quantity) _ from_block))
      (step-one edition row.step one)))))

  -- neither 7 nor 10, whatever stands before it
  pub alone-passes : (edition : ℕ) (before : Offer) (i : ℕ) → row_fault false edition before (offer_in row) i ≡ no_fault
  unfolding offer_fault
  alone-passes edition before i =
      row_fault-first false edition before (offer_in row) i one ∙ unless-true _ _ (in-range edition)

  -- the draft past it, told from its numbers
  pub alone-tested : (edition : ℕ) (d : Draft) (i : ℕ)
      → record { fault = no_fault; rows = d.rows; before = record { resource = row.resource; price = Given row.price.number; step = row.step } }
      ≡ tested_row edition d i (offer_in row)
  unfolding tested_row
  alone-tested edition d i =
      rw (alone-passes edition (offer_before d.before) i, price-in row.price (and_left (price_passes row.price) _ from-price)) refl
