-- The book that is made around rows that stand in their places, in room whose first block is cleared.
--
-- In order: how many bytes it has; a block sealed in its place; block 0; a block of rows, and all of them; the book.
-- Assumes nothing.
use Rattle.std.specs.Prelude.{ℕ, zero, suc, ◌+◌, ◌-◌, ◌*◌, List, ◌++◌, take, drop}
use Rattle.block.specs.Check.{first_sum, second_sum}
use Rattle.values.specs.declared.head.Parameters.{Parameters}
use Rattle.sections.specs.Section.{blocks_for, rows_here}
use Rattle.layout.specs.Layout.{rpmb}
use Rattle.layout.specs.Form.{ofrs}
use Rattle.encoding.specs.Numbers.{u16_bytes, value_bytes, zeros}
use Rattle.encoding.specs.Encode.{head_marks}
use Rattle.places.specs.inner.Put.{put}

-- how many bytes the book of so many rows has
abbrev pub bytes_for : ℕ → ℕ
bytes_for rows = 512 * (1 + blocks_for rows)

-- both sums of the block that starts at a place, in its last four bytes
unfoldable pub sealed_at : List ℕ → ℕ → List ℕ
sealed_at b at =
    let s = take 512 (drop at b) in
    put b (at + 508) (u16_bytes (first_sum s) ++ u16_bytes (second_sum s))

-- C, E, F and R
unfoldable pub four_values : Parameters → List ℕ
four_values p = value_bytes p.cost ++ (value_bytes p.offset ++ (value_bytes p.outage ++ value_bytes p.requirement))

-- the first 32 bytes of block 0
unfoldable pub opening : ℕ → Parameters → ℕ → List ℕ
opening edition p rows =
    rpmb
    ++ (u16_bytes edition
    ++ (u16_bytes p.year
    ++ (value_bytes p.cost
    ++ (value_bytes p.offset
    ++ (value_bytes p.outage
    ++ (value_bytes p.requirement
    ++ (u16_bytes rows
    ++ (u16_bytes (head_marks p)
    ++ value_bytes p.margin))))))))

-- what opens block number k, in which stand so many rows, up to its first place
abbrev pub rows_opening : ℕ → ℕ → List ℕ
rows_opening k here = ofrs ++ (u16_bytes k ++ (u16_bytes here ++ zeros 20))

-- zeros in the places behind so many rows of the block that starts at a place
abbrev pub unused_at : List ℕ → ℕ → ℕ → List ℕ
unused_at b at here = put b (at + (28 + here * 32)) (zeros (480 - here * 32))

-- block number k, with so many rows
unfoldable pub block_made : List ℕ → ℕ → ℕ → List ℕ
block_made b k here = sealed_at (unused_at (put b (k * 512) (rows_opening k here)) (k * 512) here) (k * 512)

-- the first blocks of so many rows
unfoldable pub blocks_made : List ℕ → ℕ → ℕ → List ℕ
blocks_made b rows zero = b
blocks_made b rows (suc j) = block_made (blocks_made b rows j) (j + 1) (rows_here rows j)

-- the book, and behind it what stood there
unfoldable pub book_made : ℕ → Parameters → ℕ → List ℕ → List ℕ
book_made edition p rows b = blocks_made (sealed_at (put b 0 (opening edition p rows)) 0) rows (blocks_for rows)
