-- Running sums from the last of n places back, as the check is taught on a whiteboard: at each step the value at the next place
-- is added into the running sum, and then the running sum into the total.
--
-- In order: the running sum; the total; both of a block, from byte 507 back to byte 0.
-- Assumes nothing.
use Rattle.std.specs.Prelude.{ℕ, zero, suc, ◌+◌, ◌-◌, List}
use Rattle.block.specs.Bytes.{byte}

-- the running sum after so many steps: the first step adds the value at place n − 1, the next the one before it
unfoldable pub running_sum : (ℕ → ℕ) → ℕ → ℕ → ℕ
running_sum f n zero = 0
running_sum f n (suc steps) = running_sum f n steps + f (n - suc steps)

-- the total after so many steps
unfoldable pub running_total : (ℕ → ℕ) → ℕ → ℕ → ℕ
running_total f n zero = 0
running_total f n (suc steps) = running_total f n steps + running_sum f n (suc steps)

-- a block's running sum, after byte 0
abbrev pub block_sum : List ℕ → ℕ
block_sum s = running_sum (byte s) 508 508

-- and its total
abbrev pub block_total : List ℕ → ℕ
block_total s = running_total (byte s) 508 508
