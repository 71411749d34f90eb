-- Which test of the layout a block fails first, and at which of its bytes: what refusal 3 leaves unsaid. A cause is the test and
-- the byte.
--
-- In order: the tests; letters, values not given, zero bytes; block 0; a place, a block of rows, a section; a book.
-- Assumes nothing.
use Rattle.std.specs.Prelude.{ℕ, ◌+◌, ◌*◌, Bool, cond, List, eqb, leb, ltb, Err, Ok, Some, None}
use Rattle.std.specs.declared.option.Option.{Option}
use Rattle.block.specs.Bytes.{byte, u16_at, u32_at}
use Rattle.values.specs.Values.{marked, absent_is_zero}
use Rattle.values.specs.Head.{edition_in}
use Rattle.values.specs.Refusals.{Verdict, Tested, unless, and_then, first}
use Rattle.sections.specs.Blocks.{block_count, block_of}
use Rattle.sections.specs.Section.{blocks_for, rows_here}
use Rattle.sections.specs.declared.section.LastBytes.{LastBytes}
use Rattle.sections.specs.declared.section.Section.{Section}
use Rattle.layout.specs.Layout.{rpmb, edition_known, count_fits}
use Rattle.layout.specs.Form.{length_fault, offers_section}
use Rattle.causes.specs.declared.Cause.{Cause}
use Rattle.causes.specs.declared.Test.{Test}
use Rattle.causes.specs.declared.Test.TheVariants.{Letters, Edition, Number, Count, Mark, Absent, Zero}

-- the tests of a layout, by their numbers
abbrev pub number_of : Test → ℕ
number_of Letters = 1
number_of Edition = 2
number_of Number = 3
number_of Count = 4
number_of Mark = 5
number_of Absent = 6
number_of Zero = 7

-- what a test of a block answers: it passed, or the cause
abbrev pub Told : Type 0
Told = Tested Cause

-- a test that fails at a byte
abbrev pub failed : Test → ℕ → Told
failed test byte = Err (record { test = test; byte = byte })

-- 1: one of the four letters; the letter
abbrev pub wrong_letter : ℕ → Told
wrong_letter = failed Letters

-- 2: the edition, in byte 4 of block 0
abbrev pub unknown_edition : Told
unknown_edition = failed Edition 4

-- 3: the block's number, in byte 4 of a block of rows
abbrev pub wrong_number : Told
wrong_number = failed Number 4

-- 4: the count; its first byte
abbrev pub wrong_count : ℕ → Told
wrong_count = failed Count

-- 5: a mark that has no meaning; the byte of the marks
abbrev pub unknown_mark : ℕ → Told
unknown_mark = failed Mark

-- 6: a value marked absent is not zero; its first byte
abbrev pub absent_not_zero : ℕ → Told
absent_not_zero = failed Absent

-- 7: a byte that has to be zero; the byte
abbrev pub not_zero : ℕ → Told
not_zero = failed Zero

-- the four letters, and the bytes from a place on that have to be zero
unfoldable pub letters_cause : List ℕ → List ℕ → Told
letters_cause s letters = first (λ i. unless (eqb (byte s i) (byte letters i)) (wrong_letter i)) 4

unfoldable pub zeros_cause : List ℕ → ℕ → ℕ → Told
zeros_cause s from n = first (λ i. unless (eqb (byte s (from + i)) 0) (not_zero (from + i))) n

-- the value at a place, by its mark
abbrev pub absent_cause : Bool → List ℕ → ℕ → Told
absent_cause mark s at = unless (absent_is_zero mark (u32_at s at)) (absent_not_zero at)

-- block 0: its marks and the values not given, in the order of head_marks_hold; all of it, in the order of head_holds
unfoldable pub head_marks_cause : List ℕ → Told
head_marks_cause s =
    let absent : ℕ → ℕ → Told = λ bit at. absent_cause (marked (byte s 26) bit) s at in
    and_then (unless (ltb (byte s 26) 32) (unknown_mark 26))
    (and_then (absent 0 8) (and_then (absent 1 12) (and_then (absent 2 16) (and_then (absent 3 20) (absent 4 28)))))

unfoldable pub head_cause : List ℕ → ℕ → Told
head_cause s blocks =
    and_then (letters_cause s rpmb)
    (and_then (unless (edition_known (edition_in s)) unknown_edition)
    (and_then (unless (count_fits s blocks) (wrong_count 24))
    (and_then (head_marks_cause s) (and_then (zeros_cause s 27 1) (zeros_cause s 32 476)))))

-- a place that starts at a byte of its block: the last four bytes of a used one, in the order of last_holds; a used one, in the order of
-- used_holds; any
unfoldable pub last_cause : LastBytes → List ℕ → ℕ → Told
last_cause last s at =
    and_then (unless (leb (byte s (at + 28)) last.marks) (unknown_mark (at + 28)))
    (and_then (unless (leb (byte s (at + 29)) last.step) (not_zero (at + 29)))
    (and_then (unless (leb last.lowest (byte s (at + 30))) (not_zero (at + 30)))
    (and_then (unless (leb (byte s (at + 30)) last.highest) (not_zero (at + 30)))
    (unless (eqb (byte s (at + 31)) 0) (not_zero (at + 31))))))

unfoldable pub used_cause : LastBytes → List ℕ → ℕ → Told
used_cause last s at =
    let absent : ℕ → ℕ → Told = λ bit value. absent_cause (marked (byte s (at + 28)) bit) s value in
    and_then (last_cause last s at) (and_then (absent 0 (at + 8)) (absent 1 (at + 16)))

unfoldable pub place_cause : LastBytes → Bool → List ℕ → ℕ → Told
place_cause last used s at = cond used (used_cause last s at) (zeros_cause s at 32)

-- the fifteen places of a block, of which so many are used
unfoldable pub places_cause : LastBytes → List ℕ → ℕ → Told
places_cause last s here = first (λ i. place_cause last (ltb i here) s (28 + i * 32)) 15

-- block number k of a section, with so many rows in it, in the order of rows_hold
unfoldable pub rows_cause : Section → List ℕ → ℕ → ℕ → Told
rows_cause t s k here =
    and_then (letters_cause s t.letters)
    (and_then (unless (eqb (u16_at s 4) k) wrong_number)
    (and_then (unless (eqb (u16_at s 6) here) (wrong_count 6)) (and_then (zeros_cause s 8 20) (places_cause t.last s here))))

-- block j of a section, from 0; all of its blocks, lowest first
unfoldable pub block_cause : List ℕ → Section → ℕ → Told
block_cause b t j = rows_cause t (block_of b (t.first + j)) (t.number + j) (rows_here t.rows j)

unfoldable pub section_cause : List ℕ → Section → Told
section_cause b t = first (block_cause b t) (blocks_for t.rows)

-- what a test failed by, if it failed
abbrev pub failing : Told → Option Cause
failing (Ok u) = None
failing (Err cause) = Some cause

-- the first cause of a book whose length is one of a book's: block 0 first, then the offer blocks, lowest first
unfoldable pub blocks_cause : List ℕ → Told
blocks_cause b = and_then (head_cause (block_of b 0) (block_count b)) (section_cause b (offers_section b))

-- what is told of a book whose length is one of a book's
abbrev pub of_length : Verdict → Option Cause → Option Cause
of_length (Ok u) cause = cause
of_length (Err refusal) cause = None

-- the cause in the first block of a book that fails
unfoldable pub cause_of : List ℕ → Option Cause
cause_of b = of_length (length_fault b) (failing (blocks_cause b))
