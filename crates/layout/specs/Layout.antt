-- The layout of block 0: what refusal 3 tests of it.
-- Assumes nothing.
use Rattle.std.specs.Prelude.{ℕ, ◌+◌, Bool, ◌&&◌, List, [], ◌∷◌, eqb, leb, ltb}
use Rattle.block.specs.Bytes.{byte, u32_at, opens_with, blank}
use Rattle.values.specs.Values.{marked, absent_is_zero}
use Rattle.values.specs.Head.{edition_in, offers_in}
use Rattle.sections.specs.Section.{blocks_for}

-- the four letters `RPMB`
abbrev pub rpmb : List ℕ
rpmb = 82 ∷ 80 ∷ 77 ∷ 66 ∷ []

-- the editions of a book: 1, and 2, which has steps
unfoldable pub edition_known : ℕ → Bool
edition_known edition = leb 1 edition && leb edition 2

-- the number of offers is at most 600 and fits the number of blocks: one, and as many as the offers need
unfoldable pub count_fits : List ℕ → ℕ → Bool
count_fits s blocks = leb (offers_in s) 600 && eqb blocks (1 + blocks_for (offers_in s))

-- bits 0 to 4 of the marks say that C, E, F, R and the margin are given, the other bits are zero, and a value not given has
-- zero bytes
unfoldable pub head_marks_hold : List ℕ → Bool
head_marks_hold s =
    let absent : ℕ → ℕ → Bool = λ bit at. absent_is_zero (marked (byte s 26) bit) (u32_at s at) in
    ltb (byte s 26) 32 && (absent 0 8 && (absent 1 12 && (absent 2 16 && (absent 3 20 && absent 4 28))))

-- block 0 of a book of so many blocks: the letters, the edition, the count, the marks, and zero in byte 27 and from byte 32 to 507
unfoldable pub head_holds : List ℕ → ℕ → Bool
head_holds s blocks =
    opens_with s rpmb
    && (edition_known (edition_in s) && (count_fits s blocks && (head_marks_hold s && (blank s 27 1 && blank s 32 476))))
