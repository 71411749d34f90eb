-- What the call that reads hands over, handed to the call that writes, says what the book says.
--
-- In order: the rows; the contents; the book that is written of them.
-- Assumes nothing.
use mathlib.Core.Path.{◌≡◌, refl, sym, ap, ap₂, ◌∙◌}
use mathlib.Core.List.{List, ◌++◌, map}
use Prim.Native.Nat.{ℕ, ◌≤◌, ◌<◌}
use native.Mathlib.Omega.{arith}
use lib.ListN.{length, get_or, take, drop, length-map, get_or-map}
use lib.Seq.{length-take-le, get_or-take, ext_get_or}
use Rattle.std.specs.Prelude.{Err, Ok}
use Rattle.values.specs.Contents.{no_offer, offer_at}
use Rattle.block.specs.Bytes.{byte}
use Rattle.layout.specs.Read.{contents_of}
use Rattle.book.specs.Faults.{sound_fault}
use Rattle.plain.specs.Given.{offer_in, contents_in}
use Rattle.plain.specs.declared.structs.OzpContents.{OzpContents}
use Rattle.plain.specs.declared.structs.OzpRow.{OzpRow}
use Rattle.plain.specs.declared.structs.OzpText.{OzpText}
use Rattle.listing.specs.Listed.{offer_out, contents_out, contents_by, read_fault, exported_contents, rows_filled, filled_rows, row_out, Read}
use Rattle.listing.proofs.Listings.{passed-room, length-filled, filled-given}
use Rattle.listing.proofs.Reread.{parameters-again, offer-again, get_d-filled}
use Rattle.words.specs.Texts.{text_given}
use Rattle.lent.specs.Wrote.{Wrote}
use Rattle.lent.proofs.Written.{sound-written}
use Rattle.values.specs.Refusals.{Verdict, no_fault}

module _ (b : List ℕ) (rows : List OzpRow) where
  abbrev n : ℕ
  n = length (contents_of b).offers

  -- the entries that were filled, as they stand in the array
  abbrev shown : List OzpRow
  shown = take n (filled_rows (row_out b) n rows)

  row-again : (i : ℕ) → i < n → n ≤ length rows → get_or (map offer_in shown) i no_offer ≡ offer_at (contents_of b).offers i
  unfolding row_out
  row-again i l long =
      ap (get_or (map offer_in shown) i) (sym (offer-again no_offer))
      ∙ get_or-map offer_in shown i (offer_out no_offer)
      ∙ ap offer_in (get_or-take n (filled_rows (row_out b) n rows) i (offer_out no_offer) l)
      ∙ ap offer_in (get_d-filled (row_out b) n rows i (offer_out no_offer) long l)
      ∙ offer-again (offer_at (contents_of b).offers i)

  rows-again : n ≤ length rows → map offer_in shown ≡ (contents_of b).offers
  rows-again long =
      let count : length (map offer_in shown) ≡ n =
      length-map shown offer_in ∙ length-take-le n (filled_rows (row_out b) n rows) (omega (arith, length-filled (row_out b) n rows)) in
      ext_get_or no_offer (map offer_in shown) (contents_of b).offers count (λ i l. row-again i (rw count at l) long)

  passed-by : (v : Verdict) (c : OzpContents) → (contents_by v c).kind ≡ 1 → v ≡ no_fault
  passed-by (Ok u) c e = refl
  passed-by (Err refusal) c e = absurd (omega (arith, e))

  module _ {r : OzpContents} {rows' : List OzpRow} (read : Read b rows r rows') (given : r.kind ≡ 1) where
    passed : read_fault b (length rows) ≡ no_fault
    unfolding exported_contents
    passed = passed-by (read_fault b (length rows)) _ (sym (ap (λ (c : OzpContents). c.kind) read.contents) ∙ given)

    answer : r ≡ contents_out (contents_of b).edition (contents_of b).parameters n
    unfolding exported_contents
    answer = read.contents ∙ ap (λ (v : Verdict). contents_by v (contents_out (contents_of b).edition (contents_of b).parameters n)) passed

    array : rows' ≡ filled_rows (row_out b) n rows
    array =
        read.filled
        ∙ ap (λ (k : ℕ). filled_rows (row_out b) k rows)
        (ap rows_filled (sym read.contents ∙ answer) ∙ sym (filled-given (contents_out (contents_of b).edition (contents_of b).parameters n) refl))

    -- The edition, the parameters and the rows that were read, handed in again, are what the book says.
    pub contents-again : contents_in r.edition r.parameters (take r.rows rows') ≡ contents_of b
    contents-again =
        ap₂ (λ (c : OzpContents) (l : List OzpRow). contents_in c.edition c.parameters (take c.rows l)) answer array
        ∙ (λ i. record {
          edition = (contents_of b).edition;
          parameters = parameters-again (contents_of b).edition (contents_of b).parameters n i;
          offers = rows-again (passed-room b (length rows) passed) i;
        })

    -- Of a sound book that is read, the call writes back the same bytes wherever there is room for them.
    pub read-written-back : ((i : ℕ) → i < length b → byte b i < 256) → sound_fault b ≡ no_fault
        → (room : List ℕ) {s : OzpText} {room' : List ℕ} → length b ≤ length room
        → Wrote (contents_in r.edition r.parameters (take r.rows rows')) room s room'
        → (s ≡ text_given (length b)) × (room' ≡ b ++ drop (length b) room)
    read-written-back bytes sound room long w = sound-written b bytes sound room long (rw contents-again at w)
