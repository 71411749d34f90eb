-- Rows in columns that hold, and whose offers hold by what no column tells, have no fault by 6, 7 or 10.
--
-- In order: the offers of edition 1 have step 1; what each row holds; all rows.
-- Assumes nothing.
use mathlib.Core.Path.{◌≡◌, sym, ap, ◌∙◌}
use mathlib.Core.Bool.{true, false}
use mathlib.Core.List.{List}
use Prim.Native.Nat.{ℕ, ◌-◌, ◌≤◌, ◌<◌}
use native.Mathlib.Omega.{arith}
use lib.ListN.{get_or}
use lib.Dec.{eqb}
use borrow.Author.Tests.{eqb-true, eq-eqb, lt-ltb, le-ltb}
use Rattle.laws.specs.Sum.{every}
use Rattle.laws.proofs.Cases.{by_order, by-test, cond-true, cond-false, and_left, and_right}
use Rattle.laws.proofs.Everys.{every-at}
use Rattle.laws.proofs.FilledRows.{filled_row}
use Rattle.values.specs.Place.{offer_of}
use Rattle.values.specs.Contents.{offer_at}
use Rattle.values.specs.declared.place.Offer.{Offer}
use Rattle.values.proofs.Firsts.{unless-true, and_then-next, first-all}
use Rattle.layout.specs.Read.{row_offer, row_offers}
use Rattle.layout.proofs.Contained.{offer_at-row_offers}
use Rattle.limits.specs.Offers.{offer_fault, step_fault}
use Rattle.limits.specs.inner.Rows.{row_fault, values_fault}
use Rattle.limits.proofs.Passing.{within-to}
use Rattle.steps.specs.Steps.{step_holds}
use Rattle.steps.proofs.Following.{step-first}
use Rattle.columns.specs.inner.Column.{row_price, row_quantity, row_least, row_resource, row_step}
use Rattle.columns.specs.inner.Columns.{Columns, Room, ColumnsRead}
use Rattle.reading.specs.inner.Lanes.{row_holds, step_kept, rest_holds, values_hold, step_at, columns_hold}
use Rattle.reading.proofs.Holding.{offer_holds, step-held, offer-passes, or_right, step_keeps}
use Rattle.values.specs.Refusals.{no_fault}

-- the offers of edition 1 have step 1
pub first_step : (b : List ℕ) (edition first n row : ℕ) → row < n → edition ≡ 1 → (offer_at (row_offers b edition first n) row).step ≡ 1
unfolding row_offer offer_of
first_step b edition first n row l one =
    ap (λ (o : Offer). o.step) (offer_at-row_offers b edition first n row l) ∙ cond-true _ _ _ (eq-eqb edition 1 one)

module _ (edition : ℕ) (offers : List Offer) (n : ℕ) {before after : Columns} (read : ColumnsRead offers n before after) (room : Room n before)
    (ones : (row : ℕ) → row < n → edition ≡ 1 → (offer_at offers row).step ≡ 1)
    (rest : every (λ row. rest_holds (offer_at offers row)) n ≡ true)
    (holds : columns_hold edition after.prices after.quantities after.leasts after.resources after.steps n ≡ true) where
  module _ (row : ℕ) (l : row < n) where
    price-at : get_or after.prices row 0 ≡ row_price offers row
    price-at = filled_row (row_price offers) n _ read.price room.price row l

    resource-at : get_or after.resources row 0 ≡ row_resource offers row
    resource-at = filled_row (row_resource offers) n _ read.resource room.resource row l

    step-at : get_or after.steps row 0 ≡ row_step offers row
    step-at = filled_row (row_step offers) n _ read.step room.step row l

    -- each row's own columns are in range
    values-at : offer_holds (offer_at offers row) ≡ true
    values-at =
        let own : row_holds (get_or after.prices row 0) (get_or after.quantities row 0) (get_or after.leasts row 0)
        (get_or after.resources row 0) (get_or after.steps row 0) ≡ true =
        every-at _ n row
        (and_left (values_hold after.prices after.quantities after.leasts after.resources after.steps n) _ holds)
        l in
        rw (
          price-at,
          filled_row (row_quantity offers) n _ read.quantity room.quantity row l,
          filled_row (row_least offers) n _ read.least room.least row l,
          resource-at,
          step-at,
        ) at own

    rest_at : rest_holds (offer_at offers row) ≡ true
    rest_at = every-at _ n row rest l

  -- past edition 1 each row is tested with the row before
  kept_at : (row : ℕ) → row < n → eqb edition 1 ≡ false → step_at after.prices after.resources after.steps row ≡ true
  kept_at row l t =
      every-at _ n row
      (or_right (eqb edition 1) _ t
      (and_right (values_hold after.prices after.quantities after.leasts after.resources after.steps n) _ holds))
      l

  -- row 0 has step 1
  keeps-zero : (row : ℕ) (l : row < n) → eqb edition 1 ≡ false → row ≤ 0 → step_holds (offer_at offers (row - 1)) (offer_at offers row) row ≡ true
  keeps-zero row l t h =
      step-first (offer_at offers (row - 1)) (offer_at offers row) row
      (sym (step-at row l) ∙ eqb-true (get_or after.steps row 0) 1 (sym (cond-false _ _ _ (le-ltb 0 row h)) ∙ kept_at row l t))

  keeps-past : (row : ℕ) (l : row < n) → eqb edition 1 ≡ false → 0 < row → step_holds (offer_at offers (row - 1)) (offer_at offers row) row ≡ true
  keeps-past row l t h =
      let k : row - 1 < n = omega arith in
      let own : step_kept (get_or after.prices (row - 1) 0) (get_or after.prices row 0) (get_or after.resources (row - 1) 0)
      (get_or after.resources row 0) (get_or after.steps (row - 1) 0) (get_or after.steps row 0) ≡ true =
      sym (cond-true _ _ _ (lt-ltb 0 row h)) ∙ kept_at row l t in
      step_keeps (offer_at offers (row - 1)) (offer_at offers row) row h
      (within-to 1 10 (offer_at offers (row - 1)).step (step-held (offer_at offers (row - 1)) (values-at (row - 1) k)))
      (rest_at row l)
      (rw (price-at (row - 1) k, price-at row l, resource-at (row - 1) k, resource-at row l, step-at (row - 1) k, step-at row l) at own)

  -- each row keeps the rules of steps
  keeps-at : (row : ℕ) → row < n → step_holds (offer_at offers (row - 1)) (offer_at offers row) row ≡ true
  keeps-at row l =
      by-test (eqb edition 1)
      (λ t. step-first (offer_at offers (row - 1)) (offer_at offers row) row (ones row l (eqb-true edition 1 t)))
      (λ t. by_order row 0 (keeps-zero row l t) (keeps-past row l t))

  -- and so no row has a fault by 6, 7 or 10
  pub rows-hold : values_fault true edition (offer_at offers) n ≡ no_fault
  unfolding values_fault row_fault step_fault
  rows-hold =
      first-all _ n
      (λ row l.
      and_then-next (offer_fault true edition (offer_at offers row) row) _
      (offer-passes (offer_at offers row) (values-at row l) edition row (ones row l) (rest_at row l))
      ∙ unless-true (step_holds (offer_at offers (row - 1)) (offer_at offers row) row) _ (keeps-at row l))
