-- What converting finds and makes, told from its steps.
--
-- In order: the refusals before 20; 11 as the code reads the rows; the book that was made; a book that is refused.
-- Assumes nothing.
use mathlib.Core.Path.{◌≡◌, refl, sym, ap₂, ◌∙◌}
use mathlib.Core.Bool.{cond}
use mathlib.Core.List.{List}
use Prim.Native.Nat.{ℕ}
use lib.Dec.{eqb, leb}
use lib.ListN.{length}
use Rattle.std.specs.Prelude.{Err, Ok}
use Rattle.values.specs.Refusals.{short_room, unless, and_then, Verdict, no_fault}
use Rattle.values.specs.declared.head.Parameters.{Parameters}
use Rattle.values.proofs.Firsts.{and_then-next, and_then-refused}
use Rattle.layout.specs.Form.{edition_of, offer_count}
use Rattle.layout.specs.Read.{row_offers, contents_of}
use Rattle.layout.proofs.Contained.{contents-count}
use Rattle.book.specs.Faults.{sound_fault}
use Rattle.places.specs.inner.Rows.{put_rows}
use Rattle.making.specs.inner.Made.{book_made}
use Rattle.convert.specs.Convert.{other_edition, steps_fault, down_fault, converted, convert_fault}
use Rattle.convert.specs.inner.Converts.{own_fault, other_made}
use Rattle.values.specs.declared.refusal.Refusal.{Refusal}

-- the first of three tests, by two and the third
then-three : (u v w : Verdict) → and_then u (and_then v w) ≡ and_then (and_then u v) w
then-three (Ok u) v w = refl
then-three (Err refusal) v w = refl

-- what is refused before the room is looked at, and then 20
pub convert-own : (b : List ℕ) (room : ℕ)
    → convert_fault b room ≡ and_then (own_fault b) (unless (leb (length (converted b)) room) short_room)
unfolding convert_fault own_fault
convert-own b room = then-three (sound_fault b) (down_fault (contents_of b)) _

-- 11, by the edition and the count that block 0 states
pub down-own : (b : List ℕ) (edition n : ℕ) → edition ≡ edition_of b → n ≡ offer_count b
    → cond (eqb edition 1) no_fault (steps_fault (row_offers b edition 1 n)) ≡ down_fault (contents_of b)
unfolding down_fault contents_of
down-own b edition n e f = ap₂ (λ (k m : ℕ). cond (eqb k 1) no_fault (steps_fault (row_offers b k 1 m))) e f

-- the book that is made of what the book says
pub made-own : (b room : List ℕ) (edition n other : ℕ) (p : Parameters) {put room' : List ℕ}
    → edition ≡ edition_of b → n ≡ offer_count b → other ≡ other_edition edition → p ≡ (contents_of b).parameters
    → put ≡ put_rows room other 0 (row_offers b edition 1 n) → room' ≡ book_made other p n put
    → room' ≡ other_made (contents_of b) room
unfolding other_made contents_of
made-own b room edition n other p e f o q r m = m ∙ rw (r, o, q, e, f, ← contents-count b) refl

-- the book is not sound, or 11 decides
pub own-unsound : (b : List ℕ) (refusal : Refusal) → sound_fault b ≡ Err refusal → Err refusal ≡ own_fault b
unfolding own_fault
own-unsound b refusal e = sym (and_then-refused (sound_fault b) _ refusal e)

pub own-down : (b : List ℕ) {v : Verdict} → sound_fault b ≡ no_fault → v ≡ down_fault (contents_of b) → v ≡ own_fault b
unfolding own_fault
own-down b sound e = e ∙ sym (and_then-next (sound_fault b) _ sound)
