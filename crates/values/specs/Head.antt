-- Block 0: 4-5 edition; 6-7 delivery year; 8-11 C; 12-15 E; 16-19 F; 20-23 R; 24-25 number of offers; 26 marks, of which bits 0 to 4
-- say that C, E, F, R and the margin are given; 28-31 the reserve margin.
-- Assumes nothing.
use Rattle.std.specs.Prelude.{ℕ, List}
use Rattle.block.specs.Bytes.{byte, u16_at, u32_at}
use Rattle.values.specs.Values.{marked, value_of}
use Rattle.values.specs.declared.Value.{Value}
use Rattle.values.specs.declared.head.Parameters.{Parameters}

-- the parameters that a block 0 holds
unfoldable pub parameters_of : List ℕ → Parameters
parameters_of s =
    let value : ℕ → ℕ → Value = λ bit at. value_of (marked (byte s 26) bit) (u32_at s at) in
    record {
      year = u16_at s 6;
      cost = value 0 8;
      offset = value 1 12;
      outage = value 2 16;
      requirement = value 3 20;
      margin = value 4 28;
    }

-- the edition that a block 0 states
unfoldable pub edition_in : List ℕ → ℕ
edition_in s = u16_at s 4

-- the number of offers that a block 0 states
unfoldable pub offers_in : List ℕ → ℕ
offers_in s = u16_at s 24
