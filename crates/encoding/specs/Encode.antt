-- The bytes of the book that says given contents.
--
-- In order: a block sealed by its two sums; block 0; a place; a block of rows; the blocks of all rows; the book.
-- Assumes nothing.
use Rattle.std.specs.Prelude.{ℕ, zero, suc, ◌+◌, ◌-◌, ◌*◌, cond, List, [], ◌∷◌, ◌++◌, eqb, length, take, drop}
use Rattle.block.specs.Check.{first_sum, second_sum}
use Rattle.values.specs.Contents.{Contents}
use Rattle.values.specs.declared.head.Parameters.{Parameters}
use Rattle.values.specs.declared.place.Offer.{Offer}
use Rattle.sections.specs.Section.{blocks_for}
use Rattle.layout.specs.Layout.{rpmb}
use Rattle.layout.specs.Form.{ofrs}
use Rattle.encoding.specs.Numbers.{u16_bytes, u32_bytes, u64_bytes, zeros, value_bytes, mark_of}

-- the first 508 bytes of a block, and behind them both sums, modulo 65,536
unfoldable pub sealed : List ℕ → List ℕ
sealed s = s ++ (u16_bytes (first_sum s) ++ u16_bytes (second_sum s))

-- the marks of block 0: bits 0 to 4 where C, E, F, R and the margin are given
abbrev pub head_marks : Parameters → ℕ
head_marks p = mark_of 0 p.cost + mark_of 1 p.offset + mark_of 2 p.outage + mark_of 3 p.requirement + mark_of 4 p.margin

-- block 0 as far as its sums: the letters, the edition, the year, C, E, F and R, the number of offers, the marks, the margin
unfoldable pub head_bytes : ℕ → Parameters → ℕ → List ℕ
head_bytes edition p offers =
    rpmb
    ++ (u16_bytes edition
    ++ (u16_bytes p.year
    ++ (value_bytes p.cost
    ++ (value_bytes p.offset
    ++ (value_bytes p.outage
    ++ (value_bytes p.requirement
    ++ (u16_bytes offers
    ++ ((head_marks p ∷ 0 ∷ [])
    ++ (value_bytes p.margin
    ++ zeros 476)))))))))

-- the marks of a place: bits 0 and 1 where the price and the minimum block are given
abbrev pub place_marks : Offer → ℕ
place_marks o = mark_of 0 o.price + mark_of 1 o.block

-- the byte of a step: edition 1 has none, and a zero in its stead
abbrev pub step_byte : ℕ → ℕ → ℕ
step_byte edition step = cond (eqb edition 1) 0 step

-- a place of 32 bytes: resource, seller, price, quantity, minimum block, time stamp, the marks, the step, and two bytes of zero
unfoldable pub place_bytes : ℕ → Offer → List ℕ
place_bytes edition o =
    u32_bytes o.resource
    ++ (u32_bytes o.seller
    ++ (value_bytes o.price
    ++ (u32_bytes o.quantity
    ++ (value_bytes o.block
    ++ (u64_bytes o.stamp
    ++ (place_marks o ∷ step_byte edition o.step ∷ zeros 2))))))

-- the places of offers, one after another
unfoldable pub places_bytes : ℕ → List Offer → List ℕ
places_bytes edition [] = []
places_bytes edition (o ∷ offers) = place_bytes edition o ++ places_bytes edition offers

-- block number k of the offers as far as its sums: the letters, its number, its count, its places, and zeros for the unused ones
unfoldable pub rows_bytes : ℕ → ℕ → List Offer → List ℕ
rows_bytes edition k offers =
    ofrs
    ++ (u16_bytes k
    ++ (u16_bytes (length offers)
    ++ (zeros 20
    ++ (places_bytes edition offers
    ++ zeros (480 - length offers * 32)))))

-- so many blocks of offers, fifteen in each, numbered from k on
unfoldable pub row_blocks : ℕ → ℕ → ℕ → List Offer → List ℕ
row_blocks edition zero k offers = []
row_blocks edition (suc blocks) k offers =
    sealed (rows_bytes edition k (take 15 offers)) ++ row_blocks edition blocks (suc k) (drop 15 offers)

-- THE BOOK: block 0, and as many blocks as the offers need
unfoldable pub encode : Contents → List ℕ
encode c =
    sealed (head_bytes c.edition c.parameters (length c.offers))
    ++ row_blocks c.edition (blocks_for (length c.offers)) 1 c.offers
