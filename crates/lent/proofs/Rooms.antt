-- The room before rows are put into it and once they stand there, by the way that the code takes.
-- Assumes nothing.
use mathlib.Core.Path.{◌≡◌, refl, ap, ◌∙◌}
use mathlib.Core.List.{List}
use Prim.Native.Nat.{ℕ, ◌≤◌, ◌<◌}
use lib.ListN.{length}
use borrow.Author.Tests.{le-leb, lt-leb}
use mathlib.Core.Bool.{true, false}
use Rattle.std.specs.Prelude.{Ok, Err, is_err}
use Rattle.values.specs.declared.head.Parameters.{Parameters}
use Rattle.encoding.specs.Numbers.{zeros}
use Rattle.places.specs.inner.Put.{put}
use Rattle.making.specs.inner.Made.{bytes_for, book_made}
use Rattle.plain.specs.declared.structs.OzpText.{OzpText}
use Rattle.words.specs.Texts.{text_given, text_refused}
use Rattle.lent.specs.inner.Drafts.{draft_by}
use Rattle.lent.specs.inner.Rooms.{open_fault, Opened, Closed}
use Rattle.lent.specs.declared.tested.Draft.{Draft}
use Rattle.lent.proofs.Begins.{by-verdict}
use Rattle.values.specs.Refusals.{number_of, place_of, short_room, Verdict, no_fault}
use Rattle.values.specs.declared.refusal.Refusal.{Refusal}

-- what is no refusal passed
pub not-refused : (v : Verdict) → is_err v ≡ false → v ≡ no_fault
not-refused (Ok u) e = refl
not-refused (Err refusal) e = cc

module _ (d : Draft) (room : List ℕ) where
  -- the rows are refused
  pub opened-refused : {r : Draft} → is_err d.fault ≡ true → r ≡ draft_by d.fault d.rows d.before → Opened d room r room
  unfolding open_fault
  opened-refused {r} e f = by-verdict d.fault (λ passed. cc (rw passed at e)) refused
    where
      refused : (refusal : Refusal) → d.fault ≡ Err refusal → Opened d room r room
      refused refusal g = record { answered = rw g (rw g at f); room-holds = rw g }

  module _ (passed : d.fault ≡ no_fault) where
    -- the room is too short
    pub opened-short : {r : Draft} → length room < bytes_for d.rows → r ≡ draft_by short_room d.rows d.before → Opened d room r room
    unfolding open_fault
    opened-short l f = record { answered = rw (passed, lt-leb _ _ l) f; room-holds = rw (passed, lt-leb _ _ l) }

    -- its first block is cleared
    pub opened-cleared : {room' : List ℕ} → bytes_for d.rows ≤ length room → room' ≡ put room 0 (zeros 512) → Opened d room d room'
    unfolding open_fault
    opened-cleared l g = record { answered = rw (passed, le-leb _ _ l); room-holds = rw (passed, le-leb _ _ l) g }

module _ (edition : ℕ) (p : Parameters) (d : Draft) (room : List ℕ) {r : OzpText} where
  pub closed-refused : (refusal : Refusal) → d.fault ≡ Err refusal → r ≡ text_refused (number_of refusal) (place_of refusal) → Closed edition p d room r room
  closed-refused refusal e f = record { answered = rw e f; room-holds = rw e }

  pub closed-made : {q : Parameters} {bytes : ℕ} {room' : List ℕ} → d.fault ≡ no_fault → q ≡ p → bytes ≡ bytes_for d.rows
      → r ≡ text_given bytes → room' ≡ book_made edition q d.rows room → Closed edition p d room r room'
  closed-made e f g h k =
      record {
        answered = rw e (h ∙ ap text_given g);
        room-holds = rw e (k ∙ ap (λ (q : Parameters). book_made edition q d.rows room) f);
      }
