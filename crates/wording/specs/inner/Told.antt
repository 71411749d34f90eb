-- The words for a value and its number.
-- Assumes nothing.
use Rattle.std.specs.Prelude.{◌≡◌, ℕ}
use Rattle.wording.specs.declared.word.Told.{Told}

pub record Tells (word number : ℕ) (t : Told) : Type 0 where
  pub words : t.word ≡ word
  pub shows : t.number ≡ number
