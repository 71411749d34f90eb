-- A room whose rows stand in their places, and that holds elsewhere what it held but for its first block, which is cleared.
--
-- In order: a block whose places are filled, and blocks of them; the room.
-- Assumes nothing.
use mathlib.Core.Path.{◌≡◌, refl, sym, ap, ap₂, ◌∙◌}
use mathlib.Core.List.{List, [], ◌∷◌, ◌++◌}
use Prim.Native.Nat.{ℕ, zero, suc, ◌+◌, ◌*◌, ◌≤◌}
use native.Mathlib.Omega.{arith}
use lib.ListN.{length, take, drop, length-append, length-take, length-drop, take-append-drop}
use lib.Seq.{length-take-le}
use Rattle.values.specs.declared.place.Offer.{Offer}
use Rattle.encoding.specs.Numbers.{zeros}
use Rattle.encoding.specs.Encode.{places_bytes}
use Rattle.encoding.proofs.Digits.{length-zeros}
use Rattle.encoding.proofs.Rows.{length-places}
use Rattle.places.specs.inner.Put.{put}
use Rattle.places.proofs.Puts.{put_front}

pub fifteen : (offers : List Offer) → length (take 15 offers) ≤ 15
fifteen offers = omega (arith, length-take 15 offers)

module _ (edition : ℕ) where
  -- a block whose first places hold these offers, and that held g
  unfoldable pub raw_block : List Offer → List ℕ → List ℕ
  raw_block offers g = take 28 g ++ (places_bytes edition offers ++ drop (28 + length offers * 32) g)

  pub length-raw_block : (offers : List Offer) (g : List ℕ) → length offers ≤ 15 → length g ≡ 512 → length (raw_block offers g) ≡ 512
  unfolding raw_block
  length-raw_block offers g few whole = simp (length-append, length-take, length-drop, length-places edition offers) (omega (arith, whole))

  -- so many blocks that held g, fifteen offers in each
  unfoldable pub raw : ℕ → List Offer → List ℕ → List ℕ
  raw zero offers g = []
  raw (suc blocks) offers g = raw_block (take 15 offers) (take 512 g) ++ raw blocks (drop 15 offers) (drop 512 g)

  block_none : (g : List ℕ) → raw_block [] g ≡ g
  unfolding raw_block places_bytes
  block_none g = take-append-drop 28 g

  none : (g : List ℕ) → length g ≡ 0 → [] ≡ g
  none [] e = refl
  none (x ∷ g) e = absurd (omega arith)

  -- with no offers they hold what they held
  pub raw-none : (blocks : ℕ) (g : List ℕ) → length g ≡ blocks * 512 → raw blocks [] g ≡ g
  unfolding raw
  raw-none zero g e = none g e
  raw-none (suc blocks) g e =
      ap₂ ◌++◌ (block_none (take 512 g)) (raw-none blocks (drop 512 g) (length-drop 512 g ∙ omega (arith, e))) ∙ take-append-drop 512 g

  -- the room before the book is made: its first block cleared, blocks that hold these offers, and what stands behind the book
  abbrev pub raw_room : ℕ → List Offer → List ℕ → List ℕ
  raw_room blocks offers room =
      zeros 512 ++ (raw blocks offers (take (blocks * 512) (drop 512 room)) ++ drop (blocks * 512) (drop 512 room))

  -- a room whose first block is cleared is such a room with no offers
  pub raw-room : (blocks : ℕ) (room : List ℕ) → 512 + blocks * 512 ≤ length room → put room 0 (zeros 512) ≡ raw_room blocks [] room
  raw-room blocks room fits =
      let rest : List ℕ = drop 512 room in
      let whole : length (take (blocks * 512) rest) ≡ blocks * 512 = length-take-le (blocks * 512) rest (omega (arith, length-drop 512 room)) in
      ap (λ (b : List ℕ). put b 0 (zeros 512)) (sym (take-append-drop 512 room))
      ∙ put_front (take 512 room) rest (zeros 512) (length-take-le 512 room (omega arith) ∙ sym (length-zeros 512))
      ∙ ap (λ (s : List ℕ). zeros 512 ++ s)
      (sym (take-append-drop (blocks * 512) rest)
      ∙ ap (λ (s : List ℕ). s ++ drop (blocks * 512) rest) (sym (raw-none blocks (take (blocks * 512) rest) whole)))
