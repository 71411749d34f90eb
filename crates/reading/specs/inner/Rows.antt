-- What reading and testing the rows of a book yields.
-- Assumes nothing.
use Rattle.std.specs.Prelude.{ℕ, ◌+◌, ◌*◌, ◌/◌, ◌≤◌, ◌≡◌, Bool, true, List, length, Err, Ok}
use Rattle.values.specs.Contents.{offer_at}
use Rattle.values.specs.declared.place.Offer.{Offer}
use Rattle.layout.specs.Read.{row_offer}
use Rattle.limits.specs.Offers.{rows_fault}
use Rattle.limits.specs.inner.Rows.{values_fault}
use Rattle.columns.specs.inner.Column.{Column, row_resource, row_step}
use Rattle.columns.specs.inner.Columns.{Columns, ColumnsRead}
use Rattle.values.specs.Refusals.{Verdict, place_of}

-- a row of a book and its own offer
pub record RowAt (b : List ℕ) (edition first : ℕ) (o : Offer) (row : ℕ) : Type 0 where
  pub within : (first + row / 15) * 512 + 512 ≤ length b
  pub own : o ≡ row_offer b edition first row

-- how many rows are read before the tests of values end: all n, or those up to the refused one
abbrev pub rows_tested : Verdict → ℕ → ℕ
rows_tested (Ok u) n = n
rows_tested (Err refusal) n = place_of refusal + 1

-- the first fault by 6, 7 or 10 among the first n offers, and the resource numbers and the steps of the rows up to it
pub record ValuesTested (needed : Bool) (edition : ℕ) (offers : List Offer) (n : ℕ) (fault : Verdict)
    (resources₀ steps₀ resources steps : List ℕ) : Type 0 where
  pub found : fault ≡ values_fault needed edition (offer_at offers) n
  pub within : rows_tested fault n ≤ n
  pub resource : Column (row_resource offers) (rows_tested fault n) resources₀ resources
  pub step : Column (row_step offers) (rows_tested fault n) steps₀ steps

-- the first fault of offers whose prices are needed, and all of them in the columns, refused or not
pub record RowsRead (edition : ℕ) (offers : List Offer) (fault : Verdict) (before after : Columns) : Type 0 where
  pub found : fault ≡ rows_fault true edition (offer_at offers) (length offers)
  pub read : ColumnsRead offers (length offers) before after
