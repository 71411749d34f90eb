-- A place of 32 bytes: 0-3 resource; 4-7 seller; 8-11 price; 12-15 offered quantity; 16-19 minimum block; 20-27 time
-- stamp; 28 marks, of which bit 0 says that the price is given and bit 1 that the minimum block is; in edition 2, 29 step.
-- Assumes nothing.
use Rattle.std.specs.Prelude.{ℕ, cond, List, eqb}
use Rattle.block.specs.Bytes.{byte, u32_at, u64_at}
use Rattle.values.specs.Values.{marked, value_of}
use Rattle.values.specs.declared.Value.{Value}
use Rattle.values.specs.declared.place.Offer.{Offer}

-- the step that a place's byte 29 says: offers of edition 1 have step 1 throughout
abbrev pub step_of : ℕ → ℕ → ℕ
step_of edition number = cond (eqb edition 1) 1 number

-- the offer that a place of a book of this edition holds
unfoldable pub offer_of : ℕ → List ℕ → Offer
offer_of edition s =
    let value : ℕ → ℕ → Value = λ bit at. value_of (marked (byte s 28) bit) (u32_at s at) in
    record {
      resource = u32_at s 0;
      seller = u32_at s 4;
      price = value 0 8;
      quantity = u32_at s 12;
      block = value 1 16;
      stamp = u64_at s 20;
      step = step_of edition (byte s 29);
    }
