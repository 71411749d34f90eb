-- The contracts of what is done with a book in lent room leave one answer, and one content of what is kept and of the room: any two
-- outcomes that a contract allows for the same values and bytes coincide, wherever they lie.
-- Assumes nothing.
use mathlib.Core.Path.{◌≡◌, sym, ap, ◌∙◌}
use mathlib.Core.List.{List}
use Prim.Native.Nat.{ℕ}
use contract.Lifetimes.{Lfts}
use denote.Ref.{Bor, MutBor}
use Rattle.values.specs.Contents.{Contents}
use Rattle.values.specs.declared.head.Parameters.{Parameters}
use Rattle.places.specs.inner.Rows.{put_row}
use Rattle.plain.specs.Given.{parameters_in, offer_in}
use Rattle.plain.specs.declared.structs.OzpParameters.{OzpParameters}
use Rattle.plain.specs.declared.structs.OzpRow.{OzpRow}
use Rattle.plain.specs.declared.structs.OzpText.{OzpText}
use Rattle.lent.specs.Wrote.{Wrote}
use Rattle.lent.specs.inner.Drafts.{draft_by, kept_row, repeated_in}
use Rattle.lent.specs.inner.Rooms.{Opened, Closed}
use Rattle.lent.specs.declared.tested.Draft.{Draft}
use Rattle.lent.proofs.tested.begin.Reads as begin
use Rattle.lent.proofs.tested.test_row.Reads as test-row
use Rattle.lent.proofs.tested.unrepeated.Reads as unrepeated
use Rattle.lent.proofs.open_room.Reads as open-room
use Rattle.lent.proofs.put_row.Reads as put-row
use Rattle.lent.proofs.close_room.Reads as close-room

-- a draft before its rows are looked at, by the contract of `begin`
pub begin-decided : (edition : ℕ) (p : OzpParameters) (rows : ℕ) (r s : Draft)
    → begin.Post tt (edition, (p, (rows, tt))) r (edition, (p, (rows, tt)))
    → begin.Post tt (edition, (p, (rows, tt))) s (edition, (p, (rows, tt)))
    → r ≡ s
begin-decided edition p rows r s e f = e ∙ sym f

-- a row that is tested and what is kept of it, by the contract of `test_row`
pub test-row-decided : (κs : Lfts 1) (d : Draft) (edition i : ℕ) (row : OzpRow) (kept₁ kept₂ kept₁' kept₂' : MutBor (List ℕ)) (r s : Draft)
    → kept₁.now ≡ kept₂.now
    → test-row.Post κs (d, (edition, (i, (row, (kept₁, tt))))) r (d, (edition, (i, (row, (kept₁', tt)))))
    → test-row.Post κs (d, (edition, (i, (row, (kept₂, tt))))) s (d, (edition, (i, (row, (kept₂', tt)))))
    → (r ≡ s) × (kept₁'.now ≡ kept₂'.now)
test-row-decided κs d edition i row kept₁ kept₂ kept₁' kept₂' r s same e f =
    (e.0 ∙ sym f.0, e.1 ∙ ap (λ (k : List ℕ). kept_row k i (offer_in row)) same ∙ sym f.1)

-- 8 of what was kept, by the contract of `unrepeated`
pub unrepeated-decided : (κs : Lfts 1) (d : Draft) (kept other : Bor (List ℕ)) (r s : Draft)
    → kept.now ≡ other.now
    → unrepeated.Post κs (d, (kept, tt)) r (d, (kept, tt))
    → unrepeated.Post κs (d, (other, tt)) s (d, (other, tt))
    → r ≡ s
unrepeated-decided κs d kept other r s same e f =
    e ∙ ap (λ (k : List ℕ). draft_by (repeated_in d k) d.rows d.before) same ∙ sym f

-- the draft that is opened and the room, by the contract of `open_room`
opened-same : (d : Draft) (room : List ℕ) (r s : Draft) (room₁ room₂ : List ℕ) → Opened d room r room₁ → Opened d room s room₂
    → (r ≡ s) × (room₁ ≡ room₂)
opened-same d room r s room₁ room₂ x y = (x.answered ∙ sym y.answered, x.room-holds ∙ sym y.room-holds)

pub open-room-decided : (κs : Lfts 1) (d : Draft) (room₁ room₂ room₁' room₂' : MutBor (List ℕ)) (r s : Draft)
    → room₁.now ≡ room₂.now
    → open-room.Post κs (d, (room₁, tt)) r (d, (room₁', tt))
    → open-room.Post κs (d, (room₂, tt)) s (d, (room₂', tt))
    → (r ≡ s) × (room₁'.now ≡ room₂'.now)
open-room-decided κs d room₁ room₂ room₁' room₂' r s e x y = opened-same d room₁.now _ _ _ _ x (rw e y)

-- a row in its place, by the contract of `put_row`
pub put-row-decided : (κs : Lfts 1) (room₁ room₂ room₁' room₂' : MutBor (List ℕ)) (edition i : ℕ) (row : OzpRow)
    → room₁.now ≡ room₂.now
    → put-row.Post κs (room₁, (edition, (i, (row, tt)))) tt (room₁', (edition, (i, (row, tt))))
    → put-row.Post κs (room₂, (edition, (i, (row, tt)))) tt (room₂', (edition, (i, (row, tt))))
    → room₁'.now ≡ room₂'.now
put-row-decided κs room₁ room₂ room₁' room₂' edition i row same e f = e ∙ ap (λ (b : List ℕ). put_row b edition i (offer_in row)) same ∙ sym f

-- the book and the answer, by the contract of `close_room`
closed_same : (edition : ℕ) (p : Parameters) (d : Draft) (room : List ℕ) (r s : OzpText) (room₁ room₂ : List ℕ)
    → Closed edition p d room r room₁ → Closed edition p d room s room₂ → (r ≡ s) × (room₁ ≡ room₂)
closed_same edition p d room r s room₁ room₂ x y = (x.answered ∙ sym y.answered, x.room-holds ∙ sym y.room-holds)

pub close-room-decided : (κs : Lfts 1) (d : Draft) (edition : ℕ) (p : OzpParameters) (room₁ room₂ room₁' room₂' : MutBor (List ℕ)) (r s : OzpText)
    → room₁.now ≡ room₂.now
    → close-room.Post κs (d, (edition, (p, (room₁, tt)))) r (d, (edition, (p, (room₁', tt))))
    → close-room.Post κs (d, (edition, (p, (room₂, tt)))) s (d, (edition, (p, (room₂', tt))))
    → (r ≡ s) × (room₁'.now ≡ room₂'.now)
close-room-decided κs d edition p room₁ room₂ room₁' room₂' r s e x y = closed_same edition (parameters_in p) d room₁.now _ _ _ _ x (rw e y)

-- what a call that writes answers and leaves in the room
pub wrote-same : (c : Contents) (room : List ℕ) (r s : OzpText) (room₁ room₂ : List ℕ) → Wrote c room r room₁ → Wrote c room s room₂
    → (r ≡ s) × (room₁ ≡ room₂)
wrote-same c room r s room₁ room₂ x y = (x.answered ∙ sym y.answered, x.room-holds ∙ sym y.room-holds)
