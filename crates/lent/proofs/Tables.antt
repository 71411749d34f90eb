-- Rows that are tested have the first fault of the table.
-- Assumes nothing.
use mathlib.Core.Path.{◌≡◌, refl, sym, ap, ap₂, ◌∙◌}
use mathlib.Core.Bool.{false}
use mathlib.Core.List.{List}
use Prim.Native.Nat.{ℕ, ◌+◌, ◌/◌, ◌≤◌}
use native.Mathlib.Omega.{arith}
use lib.Dec.{leb}
use lib.ListN.{length, get_or}
use Rattle.std.specs.Prelude.{Err}
use Rattle.values.specs.Contents.{Contents, offer_at}
use Rattle.values.specs.Refusals.{wrong_layout, too_many_rows, unless, and_then, short_room, Verdict, no_fault}
use Rattle.values.specs.declared.head.Parameters.{Parameters}
use Rattle.values.specs.declared.place.Offer.{Offer}
use Rattle.layout.specs.Layout.{edition_known}
use Rattle.limits.specs.Parameters.{range_fault}
use Rattle.limits.specs.Offers.{rows_fault}
use Rattle.limits.specs.inner.Rows.{values_fault, rows_before, with_repeats}
use Rattle.limits.proofs.Rows.{rows_fault-passes}
use Rattle.book.specs.Faults.{given_fault}
use Rattle.encoding.specs.Encode.{encode}
use Rattle.encoding.proofs.Book.{encode-length}
use Rattle.making.specs.inner.Made.{bytes_for}
use Rattle.writer.specs.Writing.{edition_fault, count_fault, write_fault}
use Rattle.writer.specs.inner.Opening.{opening_fault}
use Rattle.lent.specs.inner.Drafts.{rows_where, draft_by, draft_of, repeated_in, RowsTested}
use Rattle.lent.specs.inner.Rooms.{open_fault}
use Rattle.lent.specs.declared.tested.Draft.{Draft}
use Rattle.lent.proofs.Drafts.{refused-within}
use Rattle.lent.proofs.Begins.{by-verdict, five, unrepeated, no_rows, where-few}
use Rattle.values.specs.declared.refusal.Refusal.{Refusal}

module _ (c : Contents) (rows : ℕ) (many : length c.offers ≡ rows) (kept room : List ℕ) where
  abbrev edition : ℕ
  edition = c.edition

  abbrev p : Parameters
  p = c.parameters

  abbrev offers : List Offer
  offers = c.offers

  abbrev d : Draft
  d = draft_of edition p rows

  abbrev room-fault : Verdict
  room-fault = unless (leb (length (encode c)) (length room)) short_room

  -- the table, by what is tested before the rows
  pub write-opening : write_fault c (length room) ≡ and_then (opening_fault edition p rows) (and_then (rows_fault false edition (offer_at offers) rows) room-fault)
  unfolding write_fault edition_fault count_fault given_fault opening_fault
  write-opening =
      rw many (five (unless (edition_known edition) (wrong_layout 0)) (unless (leb rows 600) too_many_rows) (range_fault p) (rows_fault false edition (offer_at offers) rows) room-fault)

  module _ (t : Draft) (kept' : List ℕ) (long : length kept' ≡ length kept) (tested : RowsTested edition offers d kept t kept') where
    -- no more rows are left than there were
    pub tested-most : t.rows ≤ d.rows
    tested-most = rw tested.rows (refused-within edition offers d.rows d.rows (omega arith))

    -- with 8 of what was kept
    abbrev u : Draft
    u = draft_by (repeated_in t kept') t.rows t.before

    pub searched-few : u.rows ≤ t.rows
    searched-few = where-few (repeated_in t kept') t.rows

    abbrev fault : Verdict
    fault = open_fault u (length room)

    -- ---- the faults

    -- refused before the rows
    faults-opening : (refusal : Refusal) → opening_fault edition p rows ≡ Err refusal → fault ≡ Err refusal
    unfolding open_fault draft_of
    faults-opening refusal e =
        let v : t.fault ≡ Err refusal = tested.fault ∙ rw e refl in
        let none : t.rows ≡ 0 = omega (arith, tested-most, ap (λ (v : Verdict). rows_where v rows) e) in
        rw (no_rows t kept' none ∙ v) refl

    module _ (passed : opening_fault edition p rows ≡ no_fault) where
      all : d.rows ≡ rows
      unfolding draft_of
      all = ap (λ (v : Verdict). rows_where v rows) passed

      abbrev values : Verdict
      values = values_fault false edition (offer_at offers) rows

      found : t.fault ≡ values
      unfolding draft_of
      found = tested.fault ∙ ap₂ (λ (v : Verdict) (k : ℕ). and_then v (values_fault false edition (offer_at offers) k)) passed all

      limit : t.rows ≡ rows_before values rows
      limit = tested.rows ∙ ap (λ (k : ℕ). rows_before (values_fault false edition (offer_at offers) k) k) all

      -- with the repeats among them, it is the rows' first fault
      pub rows-found : repeated_in t kept' ≡ rows_fault false edition (offer_at offers) rows
      unfolding repeated_in with_repeats
      rows-found =
          rw (found, limit, long)
          (sym
          (rows_fault-passes false edition (offer_at offers) (λ row. get_or kept' row 0) (λ row. get_or kept' (length kept / 2 + row) 0) rows
          (λ row l. tested.resources row (rw limit l)) (λ row l. tested.steps row (rw limit l))))

      -- where there is none, all rows are left
      pub rows_left : rows_fault false edition (offer_at offers) rows ≡ no_fault → t.rows ≡ rows
      rows_left e = limit ∙ ap (λ (v : Verdict). rows_before v rows) (sym found ∙ unrepeated t kept' (rows-found ∙ e))

      faults-rows : fault ≡ and_then (rows_fault false edition (offer_at offers) rows) room-fault
      unfolding open_fault
      faults-rows =
          ap (λ (v : Verdict). and_then v (unless (leb (bytes_for (rows_where v t.rows)) (length room)) short_room)) rows-found
          ∙ by-verdict (rows_fault false edition (offer_at offers) rows)
          (λ e. rw e (ap (λ (k : ℕ). unless (leb k (length room)) short_room) (ap bytes_for (rows_left e ∙ sym many) ∙ sym (encode-length c))))
          (λ refusal e. rw e refl)

    -- what is refused is what the table refuses
    pub faults-same : fault ≡ write_fault c (length room)
    faults-same =
        by-verdict (opening_fault edition p rows)
        (λ e. faults-rows e ∙ sym (write-opening ∙ ap (λ (v : Verdict). and_then v (and_then (rows_fault false edition (offer_at offers) rows) room-fault)) e))
        (λ refusal e. faults-opening refusal e ∙ sym (write-opening ∙ rw e refl))
