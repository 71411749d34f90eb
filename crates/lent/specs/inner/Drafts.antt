-- A book that is to be written, as its rows are tested.
--
-- In order: what is kept of a row; a draft by its fault, and before its rows are looked at; one row more, and what is kept of it; a repeated resource; all
-- rows tested for 7 and 10, and for 8.
-- Assumes nothing.
use Rattle.std.specs.Prelude.{ℕ, ◌+◌, ◌/◌, ◌<◌, ◌≡◌, false, cond, List, ltb, length, get_or, set, Err, Ok}
use Rattle.values.specs.Contents.{no_offer, offer_at}
use Rattle.values.specs.Refusals.{and_then, repeated_resource, Verdict}
use Rattle.values.specs.declared.Value.TheVariants.{Missing}
use Rattle.values.specs.declared.head.Parameters.{Parameters}
use Rattle.values.specs.declared.place.Offer.{Offer}
use Rattle.repeats.specs.inner.Repeats.{first_repeat}
use Rattle.limits.specs.inner.Rows.{row_fault, values_fault, rows_before}
use Rattle.writer.specs.inner.Opening.{opening_fault}
use Rattle.lent.specs.declared.tested.Before.{Before}
use Rattle.lent.specs.declared.tested.Draft.{Draft}

-- so many rows where nothing is refused, and else none
abbrev pub rows_where : Verdict → ℕ → ℕ
rows_where (Ok u) rows = rows
rows_where (Err refusal) rows = 0

-- what is kept of an offer, and that as an offer again: the rest of it is none's
abbrev pub before_of : Offer → Before
before_of o = record { resource = o.resource; price = o.price; step = o.step }

abbrev pub offer_before : Before → Offer
offer_before b = record { resource = b.resource; seller = 0; price = b.price; quantity = 0; block = Missing; stamp = 0; step = b.step }

-- a draft by its fault
abbrev pub draft_by : Verdict → ℕ → Before → Draft
draft_by fault rows before = record { fault = fault; rows = rows_where fault rows; before = before }

-- before the rows are looked at: 3, 19 and 5
unfoldable pub draft_of : ℕ → Parameters → ℕ → Draft
draft_of edition p rows = draft_by (opening_fault edition p rows) rows (before_of no_offer)

-- row i tested: where it is refused, the rows before it are left
unfoldable pub tested_row : ℕ → Draft → ℕ → Offer → Draft
tested_row edition d i o =
    let fault = row_fault false edition (offer_before d.before) o i in
    record { fault = fault; rows = rows_before fault d.rows; before = before_of o }

-- its resource number in the first half of what is kept, and its step in the second
unfoldable pub kept_row : List ℕ → ℕ → Offer → List ℕ
kept_row kept i o = set (set kept i o.resource) (length kept / 2 + i) o.step

-- 8 among the rows before the one refused, told by what is kept of them
unfoldable pub repeated_in : Draft → List ℕ → Verdict
repeated_in d kept =
    let repeat = first_repeat (λ row. get_or kept row 0) (λ row. get_or kept (length kept / 2 + row) 0) d.rows in
    cond (ltb repeat d.rows) (repeated_resource repeat) d.fault

-- all rows tested for 7 and 10: the first fault, the rows before it, and what is kept of them
pub record RowsTested (edition : ℕ) (offers : List Offer) (d : Draft) (kept : List ℕ) (r : Draft) (kept' : List ℕ) : Type 0 where
  pub fault : r.fault ≡ and_then d.fault (values_fault false edition (offer_at offers) d.rows)
  pub rows : r.rows ≡ rows_before (values_fault false edition (offer_at offers) d.rows) d.rows
  pub resources : (row : ℕ) → row < r.rows → get_or kept' row 0 ≡ (offer_at offers row).resource
  pub steps : (row : ℕ) → row < r.rows → get_or kept' (length kept / 2 + row) 0 ≡ (offer_at offers row).step

-- all rows tested for 7 and 10, and then for 8, by what was kept of them
pub record Searched (edition : ℕ) (offers : List Offer) (d r : Draft) : Type 0 where
  pub before : List ℕ
  pub kept : List ℕ
  pub found : Draft
  pub long : length kept ≡ length before
  pub tested : RowsTested edition offers d before found kept
  pub answered : r ≡ draft_by (repeated_in found kept) found.rows found.before
