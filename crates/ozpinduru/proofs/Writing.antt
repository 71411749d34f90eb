-- A book in lent room: what is asked of the draft whose rows are tested, and of the calls that put them; and the book.
-- Assumes nothing.
use Rattle.std.proofs.Common.{ℕ, List, ◌≡◌, ◌≤◌, ◌<◌, ◌/◌, map, take, length, arith}
use lib.ListN.{length-map}
use Rattle.values.specs.Contents.{Contents}
use Rattle.values.specs.Refusals.{no_fault}
use Rattle.values.specs.declared.place.Offer.{Offer}
use Rattle.places.specs.inner.Rows.{put_rows}
use Rattle.making.specs.inner.Made.{bytes_for}
use Rattle.plain.specs.Given.{parameters_in, offer_in, contents_in}
use Rattle.plain.specs.declared.structs.OzpParameters.{OzpParameters}
use Rattle.plain.specs.declared.structs.OzpRow.{OzpRow}
use Rattle.plain.specs.declared.structs.OzpText.{OzpText}
use Rattle.lent.specs.Wrote.{Wrote}
use Rattle.lent.specs.inner.Drafts.{draft_by, draft_of, repeated_in, RowsTested, Searched}
use Rattle.lent.specs.inner.Rooms.{Opened, Closed}
use Rattle.lent.specs.declared.tested.Draft.{Draft}
use Rattle.lent.proofs.Begins.{Begun, draft-begun}
use Rattle.lent.proofs.Drafts.{refused-within}
use Rattle.lent.proofs.Tables.{tested-most, searched-few}
use Rattle.lent.proofs.InRoom.{opened-few, opened-put, opened-long, closed-wrote}

-- what is asked of a draft whose rows are tested: no more of them are left than there were
pub search-asks : (edition : ℕ) (offers : List Offer) (d t : Draft) (before kept : List ℕ) → length kept ≡ length before
    → RowsTested edition offers d before t kept → d.rows ≤ length before / 2 → length before ≤ 1200 → (t.rows ≤ length kept / 2) × (t.rows ≤ 600)
search-asks edition offers d t before kept long tested fit most =
    let left : t.rows ≤ d.rows = rw tested.rows (refused-within edition offers d.rows d.rows (omega arith)) in
    (omega arith, omega arith)

module _ (edition : ℕ) (p : OzpParameters) (rows : List OzpRow) where
  abbrev n : ℕ
  n = length rows

  -- the draft before its rows are looked at
  abbrev d : Draft
  d = draft_of edition (parameters_in p) n

  asked : Begun edition (parameters_in p) n d
  asked = draft-begun edition (parameters_in p) n

  abbrev c : Contents
  c = contents_in edition p rows

  many : length (map offer_in rows) ≡ n
  many = length-map rows offer_in

  -- what is asked of it, where an array of 30 entries is to keep its rows, and where one of 1,200 is
  pub few-ask : n < 16 → (d.rows ≤ n) × (d.rows ≤ 15) × (30 ≤ 1200) × (0 < d.rows → d.fault ≡ no_fault)
  few-ask l = (asked.few, omega (arith, asked.few), omega arith, asked.unrefused)

  pub many-ask : (d.rows ≤ n) × (d.rows ≤ 600) × (1200 ≤ 1200) × (0 < d.rows → d.fault ≡ no_fault)
  many-ask = (asked.few, asked.most, omega arith, asked.unrefused)

  module _ (room : List ℕ) (u : Draft) (s : Searched edition (map offer_in rows) d u) where
    u-rows : u.rows ≤ d.rows
    u-rows = rw s.answered (omega (arith, searched-few c n many s.before room s.found s.kept s.long s.tested, tested-most c n many s.before room s.found s.kept s.long s.tested))

    pub open-asks : u.rows ≤ 600
    open-asks = omega (arith, u-rows, asked.most)

    module _ (o : Draft) (room₁ : List ℕ) (opened : Opened u room o room₁) (same : length room₁ ≡ length room) where
      was : Opened (draft_by (repeated_in s.found s.kept) s.found.rows s.found.before) room o room₁
      was = rw s.answered at opened

      o-few : o.rows ≤ u.rows
      o-few = rw s.answered (opened-few c n many s.before room s.found s.kept s.long s.tested o room₁ was)

      pub put-asks : (o.rows ≤ n) × (o.rows ≤ 600) × (0 < o.rows → bytes_for o.rows ≤ length room₁)
      put-asks = (
        omega (arith, o-few, u-rows, asked.few),
        omega (arith, o-few, u-rows, asked.most),
        opened-put c n many s.before room s.found s.kept s.long s.tested o room₁ was same,
      )

      module _ (room₂ : List ℕ) where
        pub close-asks : length room₂ ≡ length room₁ → (o.rows ≤ 600) × (o.fault ≡ no_fault → bytes_for o.rows ≤ length room₂)
        close-asks again = (
          omega (arith, o-few, u-rows, asked.most),
          λ e. omega (arith, again, opened-long c n many s.before room s.found s.kept s.long s.tested o room₁ was same e),
        )

        pub wrote : room₂ ≡ put_rows room₁ edition 0 (take o.rows (map offer_in rows)) → {r : OzpText} {room' : List ℕ}
            → Closed edition (parameters_in p) o room₂ r room' → Wrote c room r room'
        wrote stand closed = closed-wrote c n many s.before room s.found s.kept s.long s.tested o room₁ was room₂ stand closed
