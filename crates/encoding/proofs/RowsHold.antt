-- A block of rows as it is written is laid out as a block of offers has to be.
--
-- In order: its letters, its number and its count; the zeros before its places and behind the used ones; its places; the block.
-- Assumes nothing.
use mathlib.Core.Path.{◌≡◌, ap, ap₂, ◌∙◌}
use mathlib.Core.Bool.{true}
use mathlib.Core.List.{List, [], ◌++◌}
use Prim.Native.Nat.{ℕ, ◌+◌, ◌-◌, ◌*◌, ◌≤◌, ◌<◌}
use native.Mathlib.Omega.{arith}
use lib.ListN.{length}
use lib.Dec.{ltb}
use borrow.Author.Tests.{lt-ltb, le-ltb, eq-eqb}
use Rattle.laws.specs.Sum.{every}
use Rattle.laws.proofs.Cases.{by_order, and-true}
use Rattle.laws.proofs.Everys.{every-all}
use Rattle.block.specs.Bytes.{byte, u16_at, opens_with, blank}
use Rattle.values.specs.Contents.{offer_at}
use Rattle.values.specs.declared.place.Offer.{Offer}
use Rattle.sections.specs.Blocks.{place_of}
use Rattle.sections.specs.Section.{places_hold, rows_hold}
use Rattle.sections.specs.inner.Section.{used_only}
use Rattle.sections.proofs.Places.{blank-all, places-rest}
use Rattle.layout.specs.Form.{ofrs, edition_of, offers_last, offers_section}
use Rattle.encoding.specs.Numbers.{u16_bytes, zeros}
use Rattle.encoding.specs.Encode.{places_bytes, rows_bytes}
use Rattle.encoding.specs.Widths.{OfferFits}
use Rattle.encoding.specs.inner.Fits.{StepFits}
use Rattle.encoding.proofs.Cuts.{get_d_past}
use Rattle.encoding.proofs.Digits.{u16_at-bytes, byte-zeros}
use Rattle.encoding.proofs.Sealed.{seal}
use Rattle.encoding.proofs.Place.{place-used}
use Rattle.encoding.proofs.Rows.{rows_opening, unused, rows_block, length-opening, length-places}
use Rattle.encoding.proofs.Rows.{rows-opened, place-written}

module _ (edition k : ℕ) (os : List Offer) where
  abbrev s : List ℕ
  s = rows_block edition k os

  opens : opens_with s ofrs ≡ true
  unfolding opens_with u16_bytes
  opens = ap (λ (t : List ℕ). opens_with t ofrs) (rows-opened edition k os)

  numbered : k < 65536 → u16_at s 4 ≡ k
  unfolding u16_at u16_bytes
  numbered few = ap (λ (t : List ℕ). u16_at t 4) (rows-opened edition k os) ∙ u16_at-bytes k [] few

  counted : length os ≤ 15 → u16_at s 6 ≡ length os
  unfolding u16_at u16_bytes
  counted here = ap (λ (t : List ℕ). u16_at t 6) (rows-opened edition k os) ∙ u16_at-bytes (length os) [] (omega arith)

  blank-before : blank s 8 20 ≡ true
  unfolding blank every u16_bytes zeros
  blank-before = ap (λ (t : List ℕ). blank t 8 20) (rows-opened edition k os)

  -- the bytes behind the used places are zero
  blank-behind : length os ≤ 15 → blank s (28 + length os * 32) ((15 - length os) * 32) ≡ true
  blank-behind here =
      blank-all s (28 + length os * 32) ((15 - length os) * 32)
      (λ i l.
      let places : ℕ = length os * 32 in
      let behind : List ℕ = unused edition k os ++ seal (rows_bytes edition k os) in
      let at : 28 + places + i ≡ 28 + (places + i) = omega arith in
      ap₂ byte (rows-opened edition k os) at
      ∙ get_d_past (rows_opening edition k os) (places_bytes edition os ++ behind) 28 (places + i) 0 (length-opening edition k os)
      ∙ get_d_past (places_bytes edition os) behind places i 0 (length-places edition os)
      ∙ byte-zeros (480 - places) i (seal (rows_bytes edition k os)) (omega arith))

  module _ (fits : (i : ℕ) → i < length os → OfferFits (offer_at os i))
      (steps : (i : ℕ) → i < length os → StepFits edition (offer_at os i).step)
    where
      -- a place is laid out as a used one, if it is used
      used-hold : (i : ℕ) → used_only (offers_last edition) (ltb i (length os)) (place_of s i) ≡ true
      unfolding used_only
      used-hold i =
          by_order (length os) i
          (λ h. rw (le-ltb i (length os) h))
          (λ h. rw (lt-ltb i (length os) h, place-written edition k os i h) (place-used edition (offer_at os i) (fits i h) (steps i h)))

      places-hold : length os ≤ 15 → places_hold (offers_last edition) s (length os) ≡ true
      places-hold here =
          places-rest (offers_last edition) s (length os) ∙ and-true _ _ (every-all _ 15 (λ i l. used-hold i)) (blank-behind here)

      -- A block of rows that is written holds as a block of offers with its number and as many rows.
      pub rows-hold : (b : List ℕ) → edition_of b ≡ edition → k < 65536 → length os ≤ 15 → rows_hold (offers_section b) s k (length os) ≡ true
      unfolding rows_hold
      rows-hold b states few here =
          and-true _ _ opens
          (and-true _ _ (eq-eqb _ _ (numbered few))
          (and-true _ _ (eq-eqb _ _ (counted here))
          (and-true _ _ blank-before
          (ap (λ (e : ℕ). places_hold (offers_last e) s (length os)) states ∙ places-hold here))))
