-- A section of a book: the rows of one kind, in blocks of their own that stand one after another and are numbered on, and
-- what refusal 3 tests of them.
--
-- In order: how many blocks its rows need, and how many rows stand in each; a place; a block; all of its blocks.
-- Assumes nothing.
use Rattle.std.specs.Prelude.{ℕ, ◌+◌, ◌-◌, ◌*◌, ◌/◌, min, Bool, cond, ◌&&◌, List, eqb, leb, ltb}
use Rattle.laws.specs.Sum.{every}
use Rattle.block.specs.Bytes.{byte, u16_at, u32_at, opens_with, blank}
use Rattle.values.specs.Values.{marked, absent_is_zero}
use Rattle.values.specs.Refusals.{wrong_layout, unless, first, Verdict}
use Rattle.sections.specs.Blocks.{block_of, place_of}
use Rattle.sections.specs.declared.section.LastBytes.{LastBytes}
use Rattle.sections.specs.declared.section.Section.{Section}

-- as many blocks as so many rows need
abbrev pub blocks_for : ℕ → ℕ
blocks_for rows = (rows + 14) / 15

-- how many of so many rows stand in block j of theirs, from 0: every block but the last is full
abbrev pub rows_here : ℕ → ℕ → ℕ
rows_here rows j = min 15 (rows - j * 15)

-- the last four bytes of a used place: 28 the marks, 29 the step, 30 what an event does, 31 zero
unfoldable pub last_holds : LastBytes → List ℕ → Bool
last_holds last p =
    leb (byte p 28) last.marks && (leb (byte p 29) last.step
    && (leb last.lowest (byte p 30) && (leb (byte p 30) last.highest && eqb (byte p 31) 0)))

-- a used place: its last bytes follow the rule, and a value not given has zero bytes; bits 0 and 1 of the marks say that the
-- price and the minimum block are given
unfoldable pub used_holds : LastBytes → List ℕ → Bool
used_holds last p =
    last_holds last p
    && (absent_is_zero (marked (byte p 28) 0) (u32_at p 8) && absent_is_zero (marked (byte p 28) 1) (u32_at p 16))

-- a place of a block; an unused one is all zero
unfoldable pub place_holds : LastBytes → Bool → List ℕ → Bool
place_holds last used p = cond used (used_holds last p) (blank p 0 32)

-- the fifteen places of a block, of which so many are used
unfoldable pub places_hold : LastBytes → List ℕ → ℕ → Bool
places_hold last s here = every (λ i. place_holds last (ltb i here) (place_of s i)) 15

-- block number k of a section, with so many rows in it: the letters, its number, its count, zero bytes 8-27, the places
unfoldable pub rows_hold : Section → List ℕ → ℕ → ℕ → Bool
rows_hold t s k here =
    opens_with s t.letters
    && (eqb (u16_at s 4) k
    && (eqb (u16_at s 6) here
    && (blank s 8 20
    && places_hold t.last s here)))

-- 3 at block j of a section, from 0; the block's number
unfoldable pub block_fault : List ℕ → Section → ℕ → Verdict
block_fault b t j =
    unless
    (rows_hold t (block_of b (t.first + j)) (t.number + j) (rows_here t.rows j))
    (wrong_layout (t.number + j))

-- 3 at the blocks of a section, lowest first
unfoldable pub section_fault : List ℕ → Section → Verdict
section_fault b t = first (block_fault b t) (blocks_for t.rows)
