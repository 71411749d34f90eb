-- The two halves of a time stamp of 64 bits, each a key of 32.
-- Assumes nothing.
use Rattle.std.specs.Prelude.{ℕ, ◌/◌, ◌%◌, List, get_or}

module _ (stamps : List ℕ) (row : ℕ) where
  abbrev pub high_half : ℕ
  high_half = get_or stamps row 0 / 4294967296

  abbrev pub low_half : ℕ
  low_half = get_or stamps row 0 % 4294967296
