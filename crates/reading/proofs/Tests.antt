-- Laws of `ValuesTested`: what a loop has shown that tests a book's rows and keeps their resource numbers and their steps.
--
-- In order: the row at hand, and its fault; no row yet; one more row that passes; a row that is refused; what the search for
-- repeats needs, and the rows' first fault; the loop's end; no rows at all.
-- Assumes nothing.
use mathlib.Core.Path.{◌≡◌, sym, ap, ap₂, ◌∙◌}
use mathlib.Core.Bool.{Bool}
use mathlib.Core.List.{List}
use Prim.Native.Nat.{ℕ, ◌+◌, ◌-◌, ◌≤◌, ◌<◌}
use native.Mathlib.Omega.{arith}
use lib.ListN.{length, get_or, set}
use Rattle.std.specs.Prelude.{Err, Ok}
use Rattle.laws.proofs.Fills.{filled_none, filled_more}
use Rattle.laws.proofs.Filling.{length-filling, filled-all}
use Rattle.laws.proofs.FilledRows.{filled_row}
use Rattle.values.specs.Contents.{offer_at}
use Rattle.values.specs.declared.place.Offer.{Offer}
use Rattle.values.proofs.Firsts.{first-zero, first_on, first-refused}
use Rattle.layout.specs.Read.{row_offer, row_offers}
use Rattle.layout.specs.inner.Read.{Inside}
use Rattle.layout.proofs.Contained.{offer_at-row_offers}
use Rattle.limits.specs.Offers.{rows_fault}
use Rattle.limits.specs.inner.Rows.{row_fault, values_fault, rows_before, with_repeats}
use Rattle.limits.proofs.Rows.{rows_fault-passes}
use Rattle.limits.proofs.Tested.{row_fault-row}
use Rattle.columns.specs.inner.Column.{Column, row_resource, row_step}
use Rattle.reading.specs.inner.Rows.{RowAt, rows_tested, ValuesTested}
use Rattle.values.specs.Refusals.{place_of, Verdict, no_fault}
use Rattle.values.specs.declared.refusal.Refusal.{Refusal}

module _ (b : List ℕ) (edition first n : ℕ) (row : ℕ) {o : Offer} (l : row < n)
    (own : o ≡ offer_at (row_offers b edition first n) row) where
  -- the row that a loop is at
  pub row_at : Inside b first n → RowAt b edition first o row
  row_at inside = record { within = inside.within row l; own = own ∙ offer_at-row_offers b edition first n row l }

  -- its fault is that of the definition
  pub row-fault : (needed : Bool) {fault : Verdict} → fault ≡ row_fault needed edition (row_offer b edition first (row - 1)) o row
      → fault ≡ row_fault needed edition (offer_at (row_offers b edition first n) (row - 1)) (offer_at (row_offers b edition first n) row) row
  row-fault needed e =
      e ∙ ap₂ (λ (before o : Offer). row_fault needed edition before o row) (sym (offer_at-row_offers b edition first n (row - 1) (omega arith))) own

-- the rows before the refused one are among those tested
pub before-tested : (fault : Verdict) (n : ℕ) → rows_before fault n ≤ rows_tested fault n
before-tested (Ok u) n = omega arith
before-tested (Err refusal) n = omega arith

-- a column of the rows tested holds the values of the rows before the refused one
module _ (fault : Verdict) (n : ℕ) (within : rows_tested fault n ≤ n) (value : ℕ → ℕ) (from : List ℕ) {to : List ℕ}
    (column : Column value (rows_tested fault n) from to) (room : n ≤ length from) where
  column-within : rows_before fault n ≤ length to
  column-within = omega (arith, before-tested fault n, within, length-filling value _ _ column)

  column-own : (row : ℕ) → row < rows_before fault n → get_or to row 0 ≡ value row
  column-own row h =
      filled_row value (rows_tested fault n) from column (omega (arith, within)) row (omega (arith, before-tested fault n))

module _ (needed : Bool) (edition : ℕ) (offers : List Offer) where
  -- where the loop begins
  pub tested-none : (resources steps : List ℕ) → ValuesTested needed edition offers 0 no_fault resources steps resources steps
  unfolding values_fault
  tested-none resources steps =
      record {
        found = sym (first-zero _);
        within = omega arith;
        resource = filled_none (row_resource offers) resources;
        step = filled_none (row_step offers) steps;
      }

  module _ (row : ℕ) {resources₀ steps₀ resources steps : List ℕ} {o : Offer}
      (t : ValuesTested needed edition offers row no_fault resources₀ steps₀ resources steps) (own : o ≡ offer_at offers row) where
    -- one more row that passes
    pub tested-more : row_fault needed edition (offer_at offers (row - 1)) (offer_at offers row) row ≡ no_fault
        → ValuesTested needed edition offers (row + 1) no_fault resources₀ steps₀ (set resources row o.resource) (set steps row o.step)
    unfolding values_fault
    tested-more passed =
        record {
          found = sym (first_on _ row (sym t.found) passed);
          within = omega arith;
          resource = filled_more (row_resource offers) row _ t.resource (ap (λ o. o.resource) own);
          step = filled_more (row_step offers) row _ t.step (ap (λ o. o.step) own);
        }

    -- a row that is refused, after rows that passed
    pub tested-refused : (n : ℕ) (refusal : Refusal) → row < n
        → row_fault needed edition (offer_at offers (row - 1)) (offer_at offers row) row ≡ Err refusal
        → ValuesTested needed edition offers n (Err refusal) resources₀ steps₀ (set resources row o.resource)
        (set steps row o.step)
    unfolding values_fault
    tested-refused n refusal h refused =
        let same : place_of refusal ≡ row = row_fault-row needed edition (offer_at offers (row - 1)) (offer_at offers row) row refusal refused in
        record {
          found = sym (first-refused _ n row refusal h (sym t.found) refused);
          within = omega arith;
          resource =
              filled-all (row_resource offers) _ (filled_more (row_resource offers) row _ t.resource (ap (λ o. o.resource) own))
              (omega arith);
          step = filled-all (row_step offers) _ (filled_more (row_step offers) row _ t.step (ap (λ o. o.step) own)) (omega arith);
        }

  module _ (n : ℕ) {fault : Verdict} {resources₀ steps₀ resources steps : List ℕ}
      (t : ValuesTested needed edition offers n fault resources₀ steps₀ resources steps)
      (room : (n ≤ length resources₀) × (n ≤ length steps₀)) where
    -- the rows before the refused one have their resource numbers and their steps
    pub tested-within : (rows_before fault n ≤ length resources) × (rows_before fault n ≤ length steps)
    tested-within = (
      column-within fault n t.within (row_resource offers) _ t.resource room.0,
      column-within fault n t.within (row_step offers) _ t.step room.1,
    )

    -- with the repeats among them it is the first fault of the rows
    pub tested-rows : (v : Verdict) → v ≡ with_repeats fault (λ row. get_or resources row 0) (λ row. get_or steps row 0) n
        → v ≡ rows_fault needed edition (offer_at offers) n
    tested-rows v e =
        e ∙ rw t.found
        (sym (rows_fault-passes needed edition (offer_at offers) (λ row. get_or resources row 0) (λ row. get_or steps row 0) n
        (rw t.found at (column-own fault n t.within (row_resource offers) _ t.resource room.0))
        (rw t.found at (column-own fault n t.within (row_step offers) _ t.step room.1))))

-- the loop ends with as many rows as there are
pub tested-end : {needed : Bool} {edition : ℕ} {offers : List Offer} {row n : ℕ} {resources₀ steps₀ resources steps : List ℕ}
    → ValuesTested needed edition offers row no_fault resources₀ steps₀ resources steps → row ≡ n
    → ValuesTested needed edition offers n no_fault resources₀ steps₀ resources steps
tested-end t e = rw e at t

-- where there are no rows, there is no fault
pub rows_none : (needed : Bool) (edition : ℕ) (offers : ℕ → Offer) {n : ℕ} → n ≡ 0 → no_fault ≡ rows_fault needed edition offers n
unfolding rows_fault
rows_none needed edition offers e = rw e (sym (first-zero _))
