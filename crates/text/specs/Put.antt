-- What it is to put bytes at a place of a buffer: all of them where they fit from there to the end, and else none.
-- In order: the buffer after, the place after, and both as what a function shows; bytes with a fill in front.
-- Assumes nothing.
use Rattle.std.specs.Prelude.{ℕ, ◌+◌, ◌-◌, min, ◌≡◌, Bool, cond, List, ◌++◌, leb, length, replicate}
use Rattle.std.proofs.Math.Seq.{paste}
use Rattle.io.specs.Counts.{IsPrefixLen}

-- the bytes fit from `at` to the end
abbrev pub room : List ℕ → ℕ → List ℕ → Bool
room out at bytes = leb (at + length bytes) (length out)

-- the buffer with the bytes at `at`; unchanged where they don't fit
unfoldable pub put : List ℕ → ℕ → List ℕ → List ℕ
put out at bytes = cond (room out at bytes) (paste out at bytes (length bytes)) out

-- the place behind the bytes; where they don't fit, `at`, or the end of the buffer if that comes first
unfoldable pub put_end : List ℕ → ℕ → List ℕ → ℕ
put_end out at bytes = cond (room out at bytes) (at + length bytes) (min at (length out))

-- a buffer that was `out` is `after`, and `end` is answered, where the bytes were put at `at`
pub record Written (out : List ℕ) (at : ℕ) (bytes after : List ℕ) (end : ℕ) : Type 0 where
  pub buffer : after ≡ put out at bytes
  pub place : end ≡ put_end out at bytes
  -- what follows of these, as `&out[..end]` asks it
  pub counts : IsPrefixLen end after

-- the bytes with as many of `fill` in front as make them `width` bytes; bytes that are as many or more stand alone
unfoldable pub right_text : ℕ → ℕ → List ℕ → List ℕ
right_text width fill bytes = replicate (width - length bytes) fill ++ bytes
