-- The rows' first fault by 6, 7 or 10, found after all rows were put into the columns.
--
-- In order: a column that is filled again with what it holds; rows that hold have no fault; rows that were gone through for it, whose
-- resource numbers and steps were stored again; what the search for repeats needs, and the rows' first fault.
-- Assumes nothing.
use mathlib.Core.Path.{◌≡◌, sym, ap, ◌∙◌}
use mathlib.Core.Bool.{Bool, true, ◌&&◌}
use mathlib.Core.List.{List}
use Prim.Native.Nat.{ℕ, ◌≤◌}
use native.Mathlib.Omega.{arith}
use lib.ListN.{length, get_or}
use Rattle.laws.proofs.Cases.{by_order, and_left, and_right}
use Rattle.laws.proofs.Filling.{length-filling}
use Rattle.laws.proofs.FilledRows.{filled_row, filled-past, filled_is}
use Rattle.values.specs.Contents.{offer_at}
use Rattle.values.specs.declared.place.Offer.{Offer}
use Rattle.layout.specs.Read.{row_offers}
use Rattle.limits.specs.Offers.{rows_fault}
use Rattle.limits.specs.inner.Rows.{values_fault, rows_before, with_repeats}
use Rattle.limits.proofs.Rows.{rows_fault-passes}
use Rattle.columns.specs.inner.Column.{Column, row_resource, row_step}
use Rattle.columns.specs.inner.Columns.{Columns, columns_of, Room, ColumnsRead}
use Rattle.columns.proofs.Turns.{columns-all}
use Rattle.reading.specs.inner.Rows.{ValuesTested, RowsRead}
use Rattle.reading.specs.inner.Lanes.{columns_hold, RowsPut}
use Rattle.reading.proofs.Tests.{before-tested}
use Rattle.reading.proofs.HeldRows.{first_step, rows-hold}
use Rattle.values.specs.Refusals.{Verdict, no_fault}

-- a column whose first k rows are stored again is as it was
column_again : (value : ℕ → ℕ) (n k : ℕ) (from mid : List ℕ) {to : List ℕ} → Column value n from mid → Column value k mid to → k ≤ n
    → n ≤ length from → Column value n from to
column_again value n k from mid {to} first again few long =
    let same = length-filling value n from first in
    filled_is value n from to long (length-filling value k mid again ∙ same)
    (λ i h.
    by_order k i
    (λ past. filled-past value k mid again i past ∙ filled_row value n from first long i h)
    (λ inside. filled_row value k mid again (omega (arith, same)) i inside))
    (λ i h. filled-past value k mid again i (omega arith) ∙ filled-past value n from first i h)

-- the first fault by 6, 7 or 10, and all rows in the columns
pub record ValuesFound (edition : ℕ) (offers : List Offer) (n : ℕ) (fault : Verdict) (before after : Columns) : Type 0 where
  pub found : fault ≡ values_fault true edition (offer_at offers) n
  pub within : rows_before fault n ≤ n
  pub read : ColumnsRead offers n before after

-- rows that hold, by their columns and by what no column tells, have no fault
pub found-held : (b : List ℕ) (edition first n : ℕ) {told holds : Bool} {before after : Columns}
    → RowsPut (row_offers b edition first n) n told before after → Room n before
    → holds ≡ columns_hold edition after.prices after.quantities after.leasts after.resources after.steps n
    → told && holds ≡ true → ValuesFound edition (row_offers b edition first n) n no_fault before after
found-held b edition first n {told} {holds} put room h both =
    record {
      found =
          sym (rows-hold edition (row_offers b edition first n) n put.read room (first_step b edition first n)
          (sym put.rest ∙ and_left told holds both)
          (sym h ∙ and_right told holds both));
      within = omega arith;
      read = put.read;
    }

-- what was found stands where the columns and the fault are given by equations
pub found_as : {edition n : ℕ} {offers : List Offer} {before : Columns} {prices quantities leasts stamps resources resources₁ steps steps₁ : List ℕ}
    {fault fault₁ : Verdict}
    → ValuesFound edition offers n fault before (columns_of prices quantities leasts resources stamps steps)
    → resources₁ ≡ resources → steps₁ ≡ steps → fault₁ ≡ fault
    → ValuesFound edition offers n fault₁ before (columns_of prices quantities leasts resources₁ stamps steps₁)
found_as f r s v = rw (r, s, v) f

module _ (edition : ℕ) (offers : List Offer) (n : ℕ) where
  -- rows that were gone through for their first fault
  pub found-tested : {told : Bool} {fault : Verdict} {before mid : Columns} {resources steps : List ℕ}
      → RowsPut offers n told before mid → Room n before
      → ValuesTested true edition offers n fault mid.resources mid.steps resources steps
      → ValuesFound edition offers n fault before
      (columns_of mid.prices mid.quantities mid.leasts resources mid.stamps steps)
  found-tested {fault = fault} put room t =
      let read = put.read in
      record {
        found = t.found;
        within = omega (arith, before-tested fault n, t.within);
        read =
            record {
              price = read.price;
              quantity = read.quantity;
              least = read.least;
              resource = column_again (row_resource offers) n _ _ _ read.resource t.resource t.within room.resource;
              stamp = read.stamp;
              step = column_again (row_step offers) n _ _ _ read.step t.step t.within room.step;
            };
      }

  module _ {fault : Verdict} {before after : Columns} (f : ValuesFound edition offers n fault before after) (room : Room n before) where
    -- the rows before the refused one have their resource numbers and their steps
    pub found_within : (rows_before fault n ≤ length after.resources) × (rows_before fault n ≤ length after.steps)
    found_within = (
      omega (arith, f.within, room.resource, length-filling (row_resource offers) n _ f.read.resource),
      omega (arith, f.within, room.step, length-filling (row_step offers) n _ f.read.step),
    )

    -- with the repeats among them it is the first fault of the rows, of which there are as many as the code has
    pub found_rows : length offers ≡ n → (v : Verdict)
        → v ≡ with_repeats fault (λ row. get_or after.resources row 0) (λ row. get_or after.steps row 0) n
        → RowsRead edition offers v before after
    found_rows all v e =
        let inside : rows_before (values_fault true edition (offer_at offers) n) n ≤ n = rw f.found at f.within in
        record {
          found =
              e
              ∙ ap (λ w. with_repeats w (λ row. get_or after.resources row 0) (λ row. get_or after.steps row 0) n) f.found
              ∙ sym (rows_fault-passes true edition (offer_at offers) (λ row. get_or after.resources row 0) (λ row. get_or after.steps row 0) n
              (λ row l. filled_row (row_resource offers) n _ f.read.resource room.resource row (omega (arith, inside)))
              (λ row l. filled_row (row_step offers) n _ f.read.step room.step row (omega (arith, inside))))
              ∙ ap (rows_fault true edition (offer_at offers)) (sym all);
          read = columns-all f.read (sym all);
        }
