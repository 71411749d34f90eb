-- What it is to put bytes into lent room at a place: as many as fit from there to its end, and the place behind all of them.
--
-- A place may lie past the end. Nothing is put there, and the place still says how many bytes the whole text has.
-- In order: the room after, the place after, and both as what a function shows.
-- Assumes nothing.
use Rattle.std.specs.Prelude.{ℕ, ◌+◌, min, ◌≡◌, List, ◌++◌, length, take, drop}

-- bytes over a room from `at` on, cut off at its end
unfoldable pub over : List ℕ → ℕ → List ℕ → List ℕ
over room at bytes = take (length room) (take at room ++ (bytes ++ drop (at + length bytes) room))

-- the place behind them, a number of 64 bits
unfoldable pub behind : ℕ → List ℕ → ℕ
behind at bytes = min (at + length bytes) 18446744073709551615

-- a room that was `room` is `after`, and `end` is answered, where the bytes were put at `at`
pub record Put (room : List ℕ) (at : ℕ) (bytes after : List ℕ) (end : ℕ) : Type 0 where
  pub buffer : after ≡ over room at bytes
  pub place : end ≡ behind at bytes
