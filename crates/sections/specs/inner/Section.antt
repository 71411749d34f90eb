-- What the tests of a section ask of it, and the used places of a block alone.
-- Assumes nothing.
use Rattle.std.specs.Prelude.{ℕ, ◌+◌, ◌*◌, ◌≤◌, Bool, true, cond, List, length}
use Rattle.sections.specs.declared.section.LastBytes.{LastBytes}
use Rattle.sections.specs.declared.section.Section.{Section}
use Rattle.sections.specs.Section.{blocks_for, used_holds}

-- a place of a block, as far as it is used
unfoldable pub used_only : LastBytes → Bool → List ℕ → Bool
used_only last used p = cond used (used_holds last p) true

-- the blocks of a section are there
pub record Fits (b : List ℕ) (t : Section) : Type 0 where
  -- they lie within the bytes
  pub within : (t.first + blocks_for t.rows) * 512 ≤ length b
  -- its rows, and the numbers of its blocks, are numbers of 16 bits
  pub few : t.rows ≤ 65535
  pub numbered : t.number + blocks_for t.rows ≤ 65536
