-- The lines of a report as bytes. In order: its words; a number with one byte behind it, a line of a word and a number; the
-- lines of a price, a refusal and a row; the lines of many rows; and what it is that a text was put whole.
-- Assumes nothing.
use Rattle.std.specs.Prelude.{ℕ, zero, suc, ◌+◌, ◌≤◌, List, [], ◌∷◌, ◌++◌, length}
use Rattle.std.proofs.Math.Option.{Option, none, some}
use Rattle.text.specs.Put.{Written}
use Rattle.text.specs.Number.{number_text}
use Rattle.values.specs.Refusals.{number_of, place_of}
use Rattle.values.specs.declared.refusal.Refusal.{Refusal}

-- `cleared `, `price `, `daily `, `year `, `refused `, each with its space
abbrev pub cleared_word : List ℕ
cleared_word = 99 ∷ 108 ∷ 101 ∷ 97 ∷ 114 ∷ 101 ∷ 100 ∷ 32 ∷ []

abbrev pub price_word : List ℕ
price_word = 112 ∷ 114 ∷ 105 ∷ 99 ∷ 101 ∷ 32 ∷ []

abbrev pub daily_word : List ℕ
daily_word = 100 ∷ 97 ∷ 105 ∷ 108 ∷ 121 ∷ 32 ∷ []

abbrev pub year_word : List ℕ
year_word = 121 ∷ 101 ∷ 97 ∷ 114 ∷ 32 ∷ []

abbrev pub refused_word : List ℕ
refused_word = 114 ∷ 101 ∷ 102 ∷ 117 ∷ 115 ∷ 101 ∷ 100 ∷ 32 ∷ []

-- the line `price -`
abbrev pub no_price_line : List ℕ
no_price_line = 112 ∷ 114 ∷ 105 ∷ 99 ∷ 101 ∷ 32 ∷ 45 ∷ 10 ∷ []

-- a number's digits and one byte: 32 is a space, 10 the end of a line
unfoldable pub ended_text : ℕ → ℕ → List ℕ
ended_text number end = number_text number ++ (end ∷ [])

-- a word in front of them
unfoldable pub word_text : List ℕ → ℕ → ℕ → List ℕ
word_text word number end = word ++ ended_text number end

-- a line of a word and a number
abbrev pub line_text : List ℕ → ℕ → List ℕ
line_text word number = word_text word number 10

-- the line of a price, or of none
abbrev pub price_text : Option ℕ → List ℕ
price_text (some cents) = line_text price_word cents
price_text none = no_price_line

unfoldable pub refusal_text : Refusal → List ℕ
refusal_text refusal = word_text refused_word (number_of refusal) 32 ++ ended_text (place_of refusal) 10

-- a row: its resource, what it clears, what it commits, its make-whole
unfoldable pub row_text : ℕ → ℕ → ℕ → ℕ → List ℕ
row_text resource cleared committed mills =
    ended_text resource 32 ++ ended_text cleared 32 ++ ended_text committed 32 ++ ended_text mills 10

-- the lines of n rows, in their order
unfoldable pub rows_text : (ℕ → List ℕ) → ℕ → List ℕ
rows_text line zero = []
rows_text line (suc n) = rows_text line n ++ line n

-- a text that fits from `at` to the end was put there
pub record Fitted (out : List ℕ) (at : ℕ) (bytes after : List ℕ) (end : ℕ) : Type 0 where
  pub fits : at + length bytes ≤ length out
  pub written : Written out at bytes after end
