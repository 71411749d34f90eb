-- A place of 32 bytes: the offer read back from the bytes that it is written as.
--
-- In order: the place as numbers alone; its length; its marks; its step; each field; the offer; the place is laid out as a used one.
-- Assumes nothing.
use mathlib.Core.Path.{◌≡◌, refl, sym, ap, ◌∙◌}
use mathlib.Core.Bool.{Bool, true, false, cond, ◌&&◌}
use mathlib.Core.List.{List, [], ◌∷◌, ◌++◌}
use Prim.Native.Nat.{ℕ, ◌+◌, ◌*◌, ◌/◌, ◌%◌, ◌≤◌, ◌<◌}
use native.Mathlib.Omega.{arith}
use lib.ListN.{length}
use lib.Dec.{eqb, leb}
use borrow.Author.Tests.{le-leb, eqb-true}
use Rattle.laws.proofs.Cases.{and-true}
use Rattle.block.specs.Bytes.{byte, u16_at, u32_at, u64_at}
use Rattle.values.specs.Place.{step_of, offer_of}
use Rattle.values.specs.declared.place.Offer.{Offer}
use Rattle.sections.specs.Section.{last_holds, used_holds}
use Rattle.layout.specs.Form.{offers_last}
use Rattle.encoding.specs.Numbers.{u16_bytes, u32_bytes, u64_bytes, zeros}
use Rattle.encoding.specs.Encode.{place_marks, step_byte, place_bytes}
use Rattle.encoding.specs.Widths.{OfferFits}
use Rattle.encoding.specs.inner.Fits.{StepFits}
use Rattle.encoding.proofs.Digits.{u32_at-bytes, u64_at-bytes}
use Rattle.encoding.proofs.Values.{written, mark, value_bytes-written, written-fits, mark-most, mark_of-mark}
use Rattle.encoding.proofs.Values.{value-back, absent-back}

module _ (edition : ℕ) (o : Offer) where
  -- the place, a value as its number
  abbrev numbers : List ℕ
  numbers =
      u32_bytes o.resource
      ++ (u32_bytes o.seller
      ++ (u32_bytes (written o.price)
      ++ (u32_bytes o.quantity
      ++ (u32_bytes (written o.block)
      ++ (u64_bytes o.stamp
      ++ (place_marks o ∷ step_byte edition o.step ∷ zeros 2))))))

  place-numbers : place_bytes edition o ≡ numbers
  unfolding place_bytes
  place-numbers = rw (value_bytes-written o.price, value_bytes-written o.block)

  pub length-place : length (place_bytes edition o) ≡ 32
  unfolding u64_bytes u32_bytes u16_bytes zeros
  length-place = ap length place-numbers

  marks-at : byte (place_bytes edition o) 28 ≡ mark o.price + mark o.block * 2
  unfolding u64_bytes u32_bytes u16_bytes
  marks-at = ap (λ (s : List ℕ). byte s 28) place-numbers ∙ omega (arith, mark_of-mark 0 o.price, mark_of-mark 1 o.block)

  price-marked : byte (place_bytes edition o) 28 / 1 % 2 ≡ mark o.price
  price-marked = omega (arith, marks-at, mark-most o.price)

  block-marked : byte (place_bytes edition o) 28 / 2 % 2 ≡ mark o.block
  block-marked = omega (arith, marks-at, mark-most o.price, mark-most o.block)

  step-at : byte (place_bytes edition o) 29 ≡ step_byte edition o.step
  unfolding u64_bytes u32_bytes u16_bytes
  step-at = ap (λ (s : List ℕ). byte s 29) place-numbers

  -- a number that stands at a place of them
  number_at : (at n : ℕ) → n < 4294967296 → u32_at numbers at ≡ u32_at (u32_bytes n ++ []) 0 → u32_at (place_bytes edition o) at ≡ n
  number_at at n h here = ap (λ (s : List ℕ). u32_at s at) place-numbers ∙ here ∙ u32_at-bytes n [] h

  -- the step that its byte says, and what the layout admits
  step_back : StepFits edition o.step → step_of edition (byte (place_bytes edition o) 29) ≡ o.step
  step_back fits = ap (step_of edition) step-at ∙ own (eqb edition 1) (λ e. fits.one (eqb-true edition 1 e))
    where
      own : (t : Bool) → (t ≡ true → o.step ≡ 1) → cond t 1 (cond t 0 o.step) ≡ o.step
      own true one = sym (one refl)
      own false one = refl

  step-most : StepFits edition o.step → byte (place_bytes edition o) 29 ≤ cond (eqb edition 1) 0 255
  step-most fits = rw step-at (own (eqb edition 1))
    where
      own : (t : Bool) → cond t 0 o.step ≤ cond t 0 255
      own true = omega arith
      own false = omega (arith, fits.byte)

  module _ (fits : OfferFits o) (step_fits : StepFits edition o.step) where
    resource-at : u32_at (place_bytes edition o) 0 ≡ o.resource
    unfolding u32_at u16_at u32_bytes u16_bytes
    resource-at = number_at 0 o.resource fits.resource refl

    seller-at : u32_at (place_bytes edition o) 4 ≡ o.seller
    unfolding u32_at u16_at u32_bytes u16_bytes
    seller-at = number_at 4 o.seller fits.seller refl

    price-at : u32_at (place_bytes edition o) 8 ≡ written o.price
    unfolding u32_at u16_at u32_bytes u16_bytes
    price-at = number_at 8 (written o.price) (written-fits o.price fits.price) refl

    quantity-at : u32_at (place_bytes edition o) 12 ≡ o.quantity
    unfolding u32_at u16_at u32_bytes u16_bytes
    quantity-at = number_at 12 o.quantity fits.quantity refl

    block_at : u32_at (place_bytes edition o) 16 ≡ written o.block
    unfolding u32_at u16_at u32_bytes u16_bytes
    block_at = number_at 16 (written o.block) (written-fits o.block fits.block) refl

    stamp-at : u64_at (place_bytes edition o) 20 ≡ o.stamp
    unfolding u64_at u32_at u16_at u64_bytes u32_bytes u16_bytes
    stamp-at = ap (λ (s : List ℕ). u64_at s 20) place-numbers ∙ u64_at-bytes o.stamp [] fits.stamp

    -- The offer that is read from its place is the one that was written.
    pub read-place : offer_of edition (place_bytes edition o) ≡ o
    unfolding offer_of
    read-place =
        λ i.
        record {
          resource = resource-at i;
          seller = seller-at i;
          price = value-back o.price (byte (place_bytes edition o) 28) 0 price-marked price-at i;
          quantity = quantity-at i;
          block = value-back o.block (byte (place_bytes edition o) 28) 1 block-marked block_at i;
          stamp = stamp-at i;
          step = step_back step_fits i;
        }

    last-part : last_holds (offers_last edition) (place_bytes edition o) ≡ true
    unfolding last_holds u64_bytes u32_bytes u16_bytes zeros
    last-part =
        and-true _ _
        (le-leb (byte (place_bytes edition o) 28) 3 (omega (arith, marks-at, mark-most o.price, mark-most o.block)))
        (and-true _ _
        (le-leb (byte (place_bytes edition o) 29) (cond (eqb edition 1) 0 255) (step-most step_fits))
        (ap (λ (s : List ℕ). leb 0 (byte s 30) && (leb (byte s 30) 0 && eqb (byte s 31) 0)) place-numbers))

    -- A place that is written is laid out as a used one.
    pub place-used : used_holds (offers_last edition) (place_bytes edition o) ≡ true
    unfolding used_holds
    place-used =
        and-true _ _ last-part
        (and-true _ _
        (absent-back o.price (byte (place_bytes edition o) 28) 0 price-marked price-at)
        (absent-back o.block (byte (place_bytes edition o) 28) 1 block-marked block_at))
