-- The check of a block of 512 bytes, and a block of which it holds.
-- Assumes nothing.
use Rattle.std.specs.Prelude.{ℕ, ◌+◌, ◌*◌, ◌%◌, ◌<◌, ◌≡◌, Bool, true, ◌&&◌, List, length, eqb}
use Rattle.laws.specs.Sum.{sum_to}
use Rattle.block.specs.Bytes.{byte, u16_at}

-- the sum of bytes 0 to 507
unfoldable pub first_sum : List ℕ → ℕ
first_sum s = sum_to (λ i. byte s i) 508

-- the sum of each of them times its position counted from 1
unfoldable pub second_sum : List ℕ → ℕ
second_sum s = sum_to (λ i. byte s i * (i + 1)) 508

-- bytes 508-509 hold the first sum and bytes 510-511 the second, modulo 65,536
unfoldable pub check_holds : List ℕ → Bool
check_holds s = eqb (first_sum s % 65536) (u16_at s 508) && eqb (second_sum s % 65536) (u16_at s 510)

-- a sound block: 512 bytes whose check holds
pub record SoundBlock (s : List ℕ) : Type 0 where
  -- it has 512 places
  pub whole : length s ≡ 512
  -- a byte stands at each
  pub bytes : (i : ℕ) → i < 512 → byte s i < 256
  -- and the last four hold both sums
  pub holds : check_holds s ≡ true
