-- Rows that are tested, put into the room and closed there: what writing the contents means.
--
-- In order: what the calls ask of one another; a refusal; a book.
-- Assumes nothing.
use mathlib.Core.Path.{◌≡◌, sym, ap, ap₂, ◌∙◌}
use mathlib.Core.Bool.{false}
use mathlib.Core.List.{List}
use Prim.Native.Nat.{ℕ, ◌≤◌, ◌<◌}
use native.Mathlib.Omega.{arith}
use lib.Dec.{leb}
use lib.ListN.{length, take}
use lib.Seq.{take_all}
use borrow.Author.Tests.{leb-true}
use Rattle.std.specs.Prelude.{Err}
use Rattle.values.specs.Contents.{Contents, offer_at}
use Rattle.values.specs.declared.refusal.Refusal.TheVariants.{ShortRoom}
use Rattle.values.specs.Refusals.{unless, short_room, buffer_by, Verdict, no_fault}
use Rattle.values.specs.declared.head.Parameters.{Parameters}
use Rattle.values.specs.declared.place.Offer.{Offer}
use Rattle.values.proofs.Firsts.{unless-passed, and_then-left, and_then-right}
use Rattle.limits.specs.Offers.{rows_fault}
use Rattle.encoding.specs.Numbers.{zeros}
use Rattle.encoding.specs.Encode.{encode}
use Rattle.encoding.proofs.Book.{encode-length}
use Rattle.places.specs.inner.Put.{put}
use Rattle.places.specs.inner.Rows.{put_rows}
use Rattle.making.specs.inner.Made.{bytes_for, book_made}
use Rattle.writer.specs.Writing.{write_fault}
use Rattle.writer.specs.inner.Opening.{opening_fault}
use Rattle.writer.proofs.Ranges.{rows-within}
use Rattle.writer.proofs.Books.{room-made}
use Rattle.plain.specs.declared.structs.OzpText.{OzpText}
use Rattle.words.specs.Texts.{text_given, text_by}
use Rattle.lent.specs.Wrote.{Wrote}
use Rattle.lent.specs.inner.Drafts.{rows_where, draft_by, draft_of, repeated_in, RowsTested}
use Rattle.lent.specs.inner.Rooms.{open_fault, Opened, Closed}
use Rattle.lent.specs.declared.tested.Draft.{Draft}
use Rattle.lent.proofs.Begins.{by-verdict, where-few, where-some}
use Rattle.lent.proofs.Tables.{write-opening, rows-found, rows_left, faults-same}
use Rattle.values.specs.declared.refusal.Refusal.{Refusal}

module _ (c : Contents) (rows : ℕ) (many : length c.offers ≡ rows) (kept room : List ℕ) where
  abbrev edition : ℕ
  edition = c.edition

  abbrev p : Parameters
  p = c.parameters

  abbrev offers : List Offer
  offers = c.offers

  abbrev d : Draft
  d = draft_of edition p rows

  abbrev room-fault : Verdict
  room-fault = unless (leb (length (encode c)) (length room)) short_room

  module _ (t : Draft) (kept' : List ℕ) (long : length kept' ≡ length kept) (tested : RowsTested edition offers d kept t kept') where
    abbrev u : Draft
    u = draft_by (repeated_in t kept') t.rows t.before

    abbrev fault : Verdict
    fault = open_fault u (length room)

    -- what is refused is what the table refuses
    abbrev same-fault : fault ≡ write_fault c (length room)
    same-fault = faults-same c rows many kept room t kept' long tested

    module _ (o : Draft) (room₁ : List ℕ) (opened : Opened u room o room₁) where
      -- what is asked of rows that are put, and of the room that is closed
      pub opened-few : o.rows ≤ u.rows
      opened-few = rw opened.answered (where-few fault u.rows)

      opened-room : o.fault ≡ no_fault → bytes_for o.rows ≤ length room
      unfolding open_fault
      opened-room e =
          let passed : fault ≡ no_fault = sym (ap (λ (x : Draft). x.fault) opened.answered) ∙ e in
          let all : o.rows ≡ u.rows = ap (λ (x : Draft). x.rows) opened.answered ∙ ap (λ (v : Verdict). rows_where v u.rows) passed in
          rw all (leb-true (bytes_for u.rows) (length room) (unless-passed (leb (bytes_for u.rows) (length room)) ShortRoom (and_then-right u.fault _ passed)))

      pub opened-long : (length room₁ ≡ length room) → o.fault ≡ no_fault → bytes_for o.rows ≤ length room₁
      opened-long same e = omega (arith, same, opened-room e)

      pub opened-put : (length room₁ ≡ length room) → 0 < o.rows → bytes_for o.rows ≤ length room₁
      opened-put same l =
          opened-long same
          (ap (λ (x : Draft). x.fault) opened.answered
          ∙ where-some fault u.rows (rw (← ap (λ (x : Draft). x.rows) opened.answered) l))

      module _ (room₂ : List ℕ) (stand : room₂ ≡ put_rows room₁ edition 0 (take o.rows offers)) {r : OzpText} {room' : List ℕ}
          (closed : Closed edition p o room₂ r room') where
        -- what the draft that was opened says, by the table
        by-fault : (v : Verdict) → write_fault c (length room) ≡ v → o ≡ draft_by v u.rows t.before
        by-fault v e = opened.answered ∙ ap (λ (w : Verdict). draft_by w u.rows t.before) (same-fault ∙ e)

        wrote-refused : (refusal : Refusal) → write_fault c (length room) ≡ Err refusal → Wrote c room r room'
        unfolding put_rows
        wrote-refused refusal e =
            let same = by-fault (Err refusal) e in
            let before : room₁ ≡ room = opened.room-holds ∙ ap (λ (w : Verdict). buffer_by w room (put room 0 (zeros 512))) (same-fault ∙ e) in
            record {
              answered = rw e (closed.answered ∙ ap (λ (x : Draft). text_by x.fault (text_given (bytes_for x.rows))) same);
              room-holds =
                  rw e
                  (closed.room-holds
                  ∙ ap (λ (x : Draft). buffer_by x.fault room₂ (book_made edition p x.rows room₂)) same
                  ∙ stand
                  ∙ ap₂ (λ (x : Draft) (s : List ℕ). put_rows s edition 0 (take x.rows offers)) same before);
            }

        wrote-passed : write_fault c (length room) ≡ no_fault → Wrote c room r room'
        wrote-passed e =
            let same = by-fault no_fault e in
            let split = sym (write-opening c rows many kept room) ∙ e in
            let passed : opening_fault edition p rows ≡ no_fault = and_then-left (opening_fault edition p rows) _ split in
            let sound : rows_fault false edition (offer_at offers) rows ≡ no_fault = and_then-left _ room-fault (and_then-right (opening_fault edition p rows) _ split) in
            let left : u.rows ≡ length offers = ap (λ (v : Verdict). rows_where v t.rows) (rows-found c rows many kept room t kept' long tested passed ∙ sound) ∙ rows_left c rows many kept room t kept' long tested passed sound ∙ sym many in
            let whole : o.rows ≡ length offers = ap (λ (x : Draft). x.rows) same ∙ left in
            let cleared : room₁ ≡ put room 0 (zeros 512) =
            opened.room-holds ∙ ap (λ (w : Verdict). buffer_by w room (put room 0 (zeros 512))) (same-fault ∙ e) in
            let rows-there : room₂ ≡ put_rows (put room 0 (zeros 512)) edition 0 offers =
            stand ∙ ap₂ (λ (s : List ℕ) (os : List Offer). put_rows s edition 0 os) cleared (take_all o.rows offers (omega (arith, whole))) in
            let fits : bytes_for (length offers) ≤ length room = rw whole at (opened-room (ap (λ (x : Draft). x.fault) same)) in
            record {
              answered =
                  rw e
                  (closed.answered
                  ∙ ap₂ (λ (v : Verdict) (k : ℕ). text_by v (text_given k)) (ap (λ (x : Draft). x.fault) same) (ap bytes_for whole ∙ sym (encode-length c)));
              room-holds =
                  rw e
                  (closed.room-holds
                  ∙ ap (λ (v : Verdict). buffer_by v room₂ (book_made edition p o.rows room₂)) (ap (λ (x : Draft). x.fault) same)
                  ∙ ap₂ (book_made edition p) whole rows-there
                  ∙ room-made c room fits (rows-within edition offers (rw many sound)));
            }

        -- Rows that were tested, put and closed in the room are written.
        pub closed-wrote : Wrote c room r room'
        closed-wrote = by-verdict (write_fault c (length room)) wrote-passed wrote-refused
