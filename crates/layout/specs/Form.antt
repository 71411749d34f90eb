-- Refusals 1, 2 and 3, and the part that the reader of rows hands back.
-- Assumes nothing.
use Rattle.std.specs.Prelude.{ℕ, ◌%◌, cond, ◌&&◌, List, [], ◌∷◌, length, eqb, leb, ltb, Err, Ok}
use Rattle.block.specs.Check.{check_holds}
use Rattle.values.specs.Head.{edition_in, offers_in}
use Rattle.values.specs.Refusals.{wrong_length, wrong_check, wrong_layout, unless, and_then, first, Verdict}
use Rattle.sections.specs.Blocks.{block_count, block_of, row_bytes}
use Rattle.sections.specs.Section.{section_fault}
use Rattle.sections.specs.declared.section.LastBytes.{LastBytes}
use Rattle.sections.specs.declared.section.Section.{Section}
use Rattle.layout.specs.Layout.{head_holds}

-- 1: the length
unfoldable pub length_fault : List ℕ → Verdict
length_fault b = unless (eqb (length b % 512) 0 && (leb 512 (length b) && leb (length b) 20992)) wrong_length

-- 2: the check, over all blocks, lowest first
unfoldable pub check_fault : List ℕ → Verdict
check_fault b = first (λ k. unless (check_holds (block_of b k)) (wrong_check k)) (block_count b)

-- the edition that a book states
abbrev pub edition_of : List ℕ → ℕ
edition_of b = edition_in (block_of b 0)

-- the number of offers that a book states
abbrev pub offer_count : List ℕ → ℕ
offer_count b = offers_in (block_of b 0)

-- the four letters `OFRS`
abbrev pub ofrs : List ℕ
ofrs = 79 ∷ 70 ∷ 82 ∷ 83 ∷ []

-- the last bytes of an offer: bits 0 and 1 of the marks may be set, byte 29 is zero in edition 1 and any step in edition 2,
-- and the other bits and bytes are zero
abbrev pub offers_last : ℕ → LastBytes
offers_last edition = record { marks = 3; step = cond (eqb edition 1) 0 255; lowest = 0; highest = 0 }

-- the offers of a book: the letters, from block 1 on, as many as block 0 states, by the rule of its edition
abbrev pub offers_section : List ℕ → Section
offers_section b =
    record { letters = ofrs; first = 1; number = 1; rows = offer_count b; last = offers_last (edition_of b) }

-- 3: the layout, block 0 first, then the offer blocks, lowest first
unfoldable pub layout_fault : List ℕ → Verdict
layout_fault b =
    and_then (unless (head_holds (block_of b 0) (block_count b)) (wrong_layout 0)) (section_fault b (offers_section b))

-- the first of the faults 1, 2, 3
unfoldable pub form_fault : List ℕ → Verdict
form_fault b = and_then (length_fault b) (and_then (check_fault b) (layout_fault b))

-- what a reader hands back of a book: nothing where a fault was found
abbrev pub handed_back : Verdict → List ℕ → List ℕ
handed_back (Ok u) part = part
handed_back (Err refusal) part = []

-- an offer's own 32 bytes; for a row that isn't there, or a book refused by 1 to 3, an empty part
unfoldable pub own_bytes : List ℕ → ℕ → List ℕ
own_bytes b row = handed_back (form_fault b) (cond (ltb row (offer_count b)) (row_bytes b 1 row) [])
