-- How a book is cut: blocks of 512 bytes, fifteen places of 32 bytes in each block of rows, rows counted from 0.
-- Assumes nothing.
use Rattle.std.specs.Prelude.{ℕ, ◌+◌, ◌*◌, ◌/◌, ◌%◌, List, length, take, drop}

-- how many whole blocks a book has
abbrev pub block_count : List ℕ → ℕ
block_count b = length b / 512

-- block k of a book, from 0
unfoldable pub block_of : List ℕ → ℕ → List ℕ
block_of b k = take 512 (drop (k * 512) b)

-- place i of a block of rows, from 0: bytes 28-507 are fifteen places of 32 bytes
unfoldable pub place_of : List ℕ → ℕ → List ℕ
place_of s i = take 32 (drop (28 + i * 32) s)

-- a row's own 32 bytes, by block and place, where the blocks of its section start at block `first`
unfoldable pub row_bytes : List ℕ → ℕ → ℕ → List ℕ
row_bytes b first row = place_of (block_of b (first + row / 15)) (row % 15)
