-- Block 0 as it is written: the edition, the parameters and the number of offers are read back from it, and its layout holds.
--
-- In order: each field; the parameters; the edition; the number of offers; the tests of the layout.
-- Assumes nothing.
use mathlib.Core.Path.{◌≡◌, refl, ap, ◌∙◌}
use mathlib.Core.Bool.{true}
use mathlib.Core.List.{List, [], ◌++◌}
use Prim.Native.Nat.{ℕ, ◌+◌, ◌≤◌, ◌<◌}
use native.Mathlib.Omega.{arith}
use lib.Dec.{leb}
use borrow.Author.Tests.{lt-ltb, le-leb, leb-true, eq-eqb}
use Rattle.laws.specs.Sum.{every}
use Rattle.laws.proofs.Cases.{and-true, and_right}
use Rattle.block.specs.Bytes.{byte, u16_at, u32_at, opens_with, blank}
use Rattle.values.specs.Head.{parameters_of, edition_in, offers_in}
use Rattle.values.specs.declared.Value.{Value}
use Rattle.values.specs.declared.head.Parameters.{Parameters}
use Rattle.sections.specs.Section.{blocks_for}
use Rattle.sections.proofs.Places.{blank-all}
use Rattle.layout.specs.Layout.{rpmb, edition_known, count_fits, head_marks_hold, head_holds}
use Rattle.encoding.specs.Numbers.{u16_bytes, u32_bytes}
use Rattle.encoding.specs.Widths.{ValueFits}
use Rattle.encoding.specs.inner.Fits.{ParametersFit}
use Rattle.encoding.proofs.Cuts.{get_d_past}
use Rattle.encoding.proofs.Digits.{u16_at-bytes, u32_at-bytes, byte-zeros}
use Rattle.encoding.proofs.Values.{written, written-fits, value-back, absent-back}
use Rattle.encoding.proofs.Sealed.{seal}
use Rattle.encoding.proofs.Head.{head_numbers, head_block, head_rest, head_opened, marks-under}
use Rattle.encoding.proofs.Head.{cost-marked, offset-marked, outage-marked, requirement-marked, margin-marked}

-- an edition that books have is under the bound of its bytes
edition-under : (edition : ℕ) → edition_known edition ≡ true → edition < 65536
unfolding edition_known
edition-under edition known = omega (arith, leb-true edition 2 (and_right (leb 1 edition) _ known))

module _ (edition : ℕ) (p : Parameters) (offers : ℕ) where
  abbrev s : List ℕ
  s = head_block edition p offers

  abbrev opened : List ℕ
  opened = head_numbers edition p offers ++ head_rest edition p offers

  -- a value whose number stands at a place of the block
  value-at : (v : Value) (at : ℕ) → ValueFits v → u32_at opened at ≡ u32_at (u32_bytes (written v) ++ []) 0
      → u32_at s at ≡ written v
  value-at v at h here =
      ap (λ (t : List ℕ). u32_at t at) (head_opened edition p offers) ∙ here ∙ u32_at-bytes (written v) [] (written-fits v h)

  module _ (fits : ParametersFit p) where
    cost-at : u32_at s 8 ≡ written p.cost
    unfolding u32_at u16_at u32_bytes u16_bytes
    cost-at = value-at p.cost 8 fits.cost refl

    offset_at : u32_at s 12 ≡ written p.offset
    unfolding u32_at u16_at u32_bytes u16_bytes
    offset_at = value-at p.offset 12 fits.offset refl

    outage-at : u32_at s 16 ≡ written p.outage
    unfolding u32_at u16_at u32_bytes u16_bytes
    outage-at = value-at p.outage 16 fits.outage refl

    requirement-at : u32_at s 20 ≡ written p.requirement
    unfolding u32_at u16_at u32_bytes u16_bytes
    requirement-at = value-at p.requirement 20 fits.requirement refl

    margin-at : u32_at s 28 ≡ written p.margin
    unfolding u32_at u16_at u32_bytes u16_bytes
    margin-at = value-at p.margin 28 fits.margin refl

    year-at : u16_at s 6 ≡ p.year
    unfolding u16_at u32_bytes u16_bytes
    year-at = ap (λ (t : List ℕ). u16_at t 6) (head_opened edition p offers) ∙ u16_at-bytes p.year [] fits.year

    -- The parameters that are read from block 0 are those that were written.
    pub read_head : parameters_of s ≡ p
    unfolding parameters_of
    read_head = λ i. record {
      year = year-at i;
      cost = value-back p.cost (byte s 26) 0 (cost-marked edition p offers) cost-at i;
      offset = value-back p.offset (byte s 26) 1 (offset-marked edition p offers) offset_at i;
      outage = value-back p.outage (byte s 26) 2 (outage-marked edition p offers) outage-at i;
      requirement = value-back p.requirement (byte s 26) 3 (requirement-marked edition p offers) requirement-at i;
      margin = value-back p.margin (byte s 26) 4 (margin-marked edition p offers) margin-at i;
    }

    -- The edition that is read from block 0 is the one that was written.
    pub read-edition : edition_known edition ≡ true → edition_in s ≡ edition
    unfolding edition_in u16_at u32_bytes u16_bytes
    read-edition known = ap (λ (t : List ℕ). u16_at t 4) (head_opened edition p offers) ∙ u16_at-bytes edition [] (edition-under edition known)

    marks-hold : head_marks_hold s ≡ true
    unfolding head_marks_hold
    marks-hold =
        and-true _ _ (lt-ltb (byte s 26) 32 (marks-under edition p offers))
        (and-true _ _ (absent-back p.cost (byte s 26) 0 (cost-marked edition p offers) cost-at)
        (and-true _ _ (absent-back p.offset (byte s 26) 1 (offset-marked edition p offers) offset_at)
        (and-true _ _ (absent-back p.outage (byte s 26) 2 (outage-marked edition p offers) outage-at)
        (and-true _ _ (absent-back p.requirement (byte s 26) 3 (requirement-marked edition p offers) requirement-at)
        (absent-back p.margin (byte s 26) 4 (margin-marked edition p offers) margin-at)))))

    module _ (known : edition_known edition ≡ true) (few : offers ≤ 600) where
      -- The number of offers that is read from block 0 is the one that was written.
      pub read_count : offers_in s ≡ offers
      unfolding offers_in u16_at u32_bytes u16_bytes
      read_count = ap (λ (t : List ℕ). u16_at t 24) (head_opened edition p offers) ∙ u16_at-bytes offers [] (omega arith)

      count_fits_lem : count_fits s (1 + blocks_for offers) ≡ true
      unfolding count_fits
      count_fits_lem =
          rw read_count
          (and-true _ _ (le-leb offers 600 few) (eq-eqb (1 + blocks_for offers) (1 + blocks_for offers) refl))

      -- the letters
      opens : opens_with s rpmb ≡ true
      unfolding opens_with u32_bytes u16_bytes
      opens = ap (λ (t : List ℕ). opens_with t rpmb) (head_opened edition p offers)

      -- the bytes of zero
      blank-27 : blank s 27 1 ≡ true
      unfolding blank every u32_bytes u16_bytes
      blank-27 = ap (λ (t : List ℕ). blank t 27 1) (head_opened edition p offers)

      blank-rest : blank s 32 476 ≡ true
      unfolding u32_bytes u16_bytes
      blank-rest =
          blank-all s 32 476
          (λ i l.
          ap (λ (t : List ℕ). byte t (32 + i)) (head_opened edition p offers)
          ∙ get_d_past (head_numbers edition p offers) (head_rest edition p offers) 32 i 0 refl
          ∙ byte-zeros 476 i (seal _) l)

      -- Block 0 is laid out as it has to be.
      pub head-holds : head_holds s (1 + blocks_for offers) ≡ true
      unfolding head_holds
      head-holds =
          and-true _ _ opens
          (and-true _ _ (ap edition_known (read-edition known) ∙ known)
          (and-true _ _ count_fits_lem (and-true _ _ marks-hold (and-true _ _ blank-27 blank-rest))))
