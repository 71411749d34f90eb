-- A sound book in the other edition, and when it is refused.
--
-- In order: the other edition, and what a book says in it; the bytes; the refusals; the row at which 11 refuses.
-- Assumes nothing.
use Rattle.std.specs.Prelude.{ℕ, ◌≤◌, ◌<◌, ◌≡◌, cond, List, eqb, leb, length}
use Rattle.values.specs.Contents.{Contents, offer_at}
use Rattle.values.specs.Refusals.{several_steps, short_room, unless, and_then, first, Verdict, no_fault}
use Rattle.values.specs.declared.place.Offer.{Offer}
use Rattle.layout.specs.Read.{contents_of}
use Rattle.book.specs.Faults.{sound_fault}
use Rattle.encoding.specs.Encode.{encode}

-- the other of the two editions
abbrev pub other_edition : ℕ → ℕ
other_edition edition = cond (eqb edition 1) 2 1

-- the same parameters and offers, in the other edition
unfoldable pub in_other : Contents → Contents
in_other c = record { edition = other_edition c.edition; parameters = c.parameters; offers = c.offers }

-- THE BOOK in the other edition
unfoldable pub converted : List ℕ → List ℕ
converted b = encode (in_other (contents_of b))

-- 11: an offer has a step of 2 or more; the first such row
unfoldable pub steps_fault : List Offer → Verdict
steps_fault offers = first (λ row. unless (leb (offer_at offers row).step 1) (several_steps row)) (length offers)

-- tested of what goes down to edition 1, which has no steps
unfoldable pub down_fault : Contents → Verdict
down_fault c = cond (eqb c.edition 1) no_fault (steps_fault c.offers)

-- The first fault of a book that is to be converted into room of so many bytes: its own where it is not sound; 11; 20.
unfoldable pub convert_fault : List ℕ → ℕ → Verdict
convert_fault b room =
    and_then (sound_fault b) (and_then (down_fault (contents_of b)) (unless (leb (length (converted b)) room) short_room))

-- the row at which 11 refuses: of contents in edition 2 the first with a step of 2 or more
pub record FirstOfSeveral (c : Contents) (row : ℕ) : Type 0 where
  pub edition : c.edition ≡ 2
  pub there : row < length c.offers
  pub several : 2 ≤ (offer_at c.offers row).step
  pub before : (earlier : ℕ) → earlier < row → (offer_at c.offers earlier).step ≤ 1
