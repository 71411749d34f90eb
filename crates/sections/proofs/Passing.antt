-- What it means for later code that a section passed refusal 3.
--
-- In order: the used places of a block of rows that holds; the blocks of a section that passed, and its rows.
-- Assumes nothing.
use mathlib.Core.Path.{◌≡◌}
use mathlib.Core.Bool.{Bool, true, ◌&&◌}
use mathlib.Core.List.{List}
use Prim.Native.Nat.{ℕ, ◌+◌, ◌/◌, ◌%◌, ◌<◌}
use native.Mathlib.Omega.{arith}
use lib.Dec.{eqb, ltb}
use borrow.Author.Tests.{lt-ltb}
use Rattle.laws.proofs.Cases.{and_right}
use Rattle.laws.proofs.Everys.{every-at}
use Rattle.block.specs.Bytes.{u16_at, opens_with, blank}
use Rattle.values.proofs.Firsts.{unless-passed, first-at}
use Rattle.sections.specs.Blocks.{block_of, place_of, row_bytes}
use Rattle.sections.specs.Section.{blocks_for, rows_here, used_holds, place_holds, places_hold, rows_hold, block_fault, section_fault}
use Rattle.sections.specs.declared.section.Section.{Section}
use Rattle.values.specs.Refusals.{no_fault}
use Rattle.values.specs.declared.refusal.Refusal.TheVariants.{WrongLayout}

-- a block of rows that holds has places that hold
places-hold : (t : Section) (s : List ℕ) (k here : ℕ) → rows_hold t s k here ≡ true → places_hold t.last s here ≡ true
unfolding rows_hold
places-hold t s k here e =
    let places : Bool = places_hold t.last s here in
    let from-blank : Bool = blank s 8 20 && places in
    let from-count : Bool = eqb (u16_at s 6) here && from-blank in
    and_right (blank s 8 20) places
    (and_right (eqb (u16_at s 6) here) from-blank
    (and_right (eqb (u16_at s 4) k) from-count
    (and_right (opens_with s t.letters) (eqb (u16_at s 4) k && from-count) e)))

-- and its used places hold as such
rows-hold-used : (t : Section) (s : List ℕ) (k here i : ℕ)
    → rows_hold t s k here ≡ true → i < 15 → i < here → used_holds t.last (place_of s i) ≡ true
unfolding places_hold place_holds
rows-hold-used t s k here i e l u =
    rw (lt-ltb i here u) at
    (every-at (λ j. place_holds t.last (ltb j here) (place_of s j)) 15 i (places-hold t s k here e) l)

-- a section that passed: each of its blocks holds
pub section-passed-block : (b : List ℕ) (t : Section) → section_fault b t ≡ no_fault → (j : ℕ) → j < blocks_for t.rows
    → rows_hold t (block_of b (t.first + j)) (t.number + j) (rows_here t.rows j) ≡ true
unfolding section_fault block_fault
section-passed-block b t passed j l =
    unless-passed (rows_hold t (block_of b (t.first + j)) (t.number + j) (rows_here t.rows j)) (WrongLayout (t.number + j))
    (first-at (block_fault b t) (blocks_for t.rows) j passed l)

-- and each row's own bytes are laid out as a used place
pub section-passed-used : (b : List ℕ) (t : Section) → section_fault b t ≡ no_fault
    → (row : ℕ) → row < t.rows → used_holds t.last (row_bytes b t.first row) ≡ true
unfolding row_bytes
section-passed-used b t passed row l =
    let j : ℕ = row / 15 in
    rows-hold-used t (block_of b (t.first + j)) (t.number + j) (rows_here t.rows j) (row % 15)
    (section-passed-block b t passed j (omega arith))
    (omega arith)
    (omega arith)
