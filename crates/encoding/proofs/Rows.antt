-- A block of rows as it is written: where its places stand, how long it is, and that its check holds.
--
-- In order: places one after another; the block up to its places, and behind them; a place of it; its length and its check.
-- Assumes nothing.
use mathlib.Core.Path.{◌≡◌, refl, sym, ap, ap₂, ◌∙◌}
use mathlib.Core.Bool.{true}
use mathlib.Core.List.{List, [], ◌∷◌, ◌++◌, append_assoc}
use Prim.Native.Nat.{ℕ, zero, suc, ◌+◌, ◌-◌, ◌*◌, ◌≤◌, ◌<◌}
use native.Mathlib.Nat.{suc-mul, add_comm}
use native.Mathlib.Omega.{arith}
use lib.ListN.{length, length-append}
use Rattle.block.specs.Check.{check_holds}
use Rattle.values.specs.declared.place.Offer.{Offer}
use Rattle.values.specs.Contents.{offer_at}
use Rattle.sections.specs.Blocks.{place_of}
use Rattle.layout.specs.Form.{ofrs}
use Rattle.encoding.specs.Numbers.{u16_bytes, zeros}
use Rattle.encoding.specs.Encode.{place_bytes, places_bytes, rows_bytes, sealed}
use Rattle.encoding.proofs.Cuts.{part, part-here, part-past}
use Rattle.encoding.proofs.Digits.{length-zeros}
use Rattle.encoding.proofs.Sealed.{seal, length-sealed, sealed-holds}
use Rattle.encoding.proofs.Place.{length-place}

-- ---- places, one after another

pub length-places : (edition : ℕ) (os : List Offer) → length (places_bytes edition os) ≡ length os * 32
unfolding places_bytes
length-places edition [] = refl
length-places edition (o ∷ os) =
    length-append (place_bytes edition o) (places_bytes edition os)
    ∙ ap₂ ◌+◌ (length-place edition o) (length-places edition os)
    ∙ add_comm 32 (length os * 32)
    ∙ sym (suc-mul (length os) 32)

-- the place of a row, whatever stands behind the places
pub place-of-row : (edition : ℕ) (os : List Offer) (q : List ℕ) (i : ℕ) → i < length os
    → part (places_bytes edition os ++ q) (i * 32) 32 ≡ place_bytes edition (offer_at os i)
unfolding places_bytes
place-of-row edition [] q i l = absurd (omega arith)
place-of-row edition (o ∷ os) q zero l =
    ap (λ (t : List ℕ). part t 0 32) (append_assoc (place_bytes edition o) (places_bytes edition os) q)
    ∙ part-here (place_bytes edition o) (places_bytes edition os ++ q) 32 (length-place edition o)
place-of-row edition (o ∷ os) q (suc i) l =
    let further : suc i * 32 ≡ 32 + i * 32 = omega arith in
    ap₂ (λ (t : List ℕ) (at : ℕ). part t at 32) (append_assoc (place_bytes edition o) (places_bytes edition os) q) further
    ∙ part-past (place_bytes edition o) (places_bytes edition os ++ q) 32 (i * 32) 32 (length-place edition o)
    ∙ place-of-row edition os q i (omega arith)

-- ---- a block

module _ (edition k : ℕ) (os : List Offer) where
  -- the block as far as its places
  abbrev pub rows_opening : List ℕ
  rows_opening = ofrs ++ (u16_bytes k ++ (u16_bytes (length os) ++ zeros 20))

  abbrev pub unused : List ℕ
  unused = zeros (480 - length os * 32)

  abbrev pub rows_block : List ℕ
  rows_block = sealed (rows_bytes edition k os)

  pub length-opening : length rows_opening ≡ 28
  unfolding u16_bytes zeros
  length-opening = refl

  pub rows-parts : rows_bytes edition k os ≡ rows_opening ++ (places_bytes edition os ++ unused)
  unfolding rows_bytes
  rows-parts = simp append_assoc

  pub rows-opened : rows_block ≡ rows_opening ++ (places_bytes edition os ++ (unused ++ seal (rows_bytes edition k os)))
  unfolding sealed
  rows-opened =
      ap (λ (s : List ℕ). s ++ seal (rows_bytes edition k os)) rows-parts
      ∙ append_assoc rows_opening (places_bytes edition os ++ unused) (seal (rows_bytes edition k os))
      ∙ ap (λ (s : List ℕ). rows_opening ++ s) (append_assoc (places_bytes edition os) unused (seal (rows_bytes edition k os)))

  -- the place of a row of the block
  pub place-written : (i : ℕ) → i < length os → place_of rows_block i ≡ place_bytes edition (offer_at os i)
  unfolding place_of
  place-written i l =
      ap (λ (s : List ℕ). part s (28 + i * 32) 32) rows-opened
      ∙ part-past rows_opening _ 28 (i * 32) 32 length-opening
      ∙ place-of-row edition os (unused ++ seal (rows_bytes edition k os)) i l

  module _ (here : length os ≤ 15) where
    pub length-rows : length (rows_bytes edition k os) ≡ 508
    length-rows =
        ap length rows-parts
        ∙ length-append rows_opening (places_bytes edition os ++ unused)
        ∙ ap₂ ◌+◌ length-opening (length-append (places_bytes edition os) unused)
        ∙ omega (arith, length-places edition os, length-zeros (480 - length os * 32))

    pub length-block : length rows_block ≡ 512
    length-block = length-sealed (rows_bytes edition k os) length-rows

    -- its check holds
    pub check-block : check_holds rows_block ≡ true
    check-block = sealed-holds (rows_bytes edition k os) length-rows
