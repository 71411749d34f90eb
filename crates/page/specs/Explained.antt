-- A page in room that a caller lends.
-- Assumes nothing.
use Rattle.std.specs.Prelude.{ℕ, min, ◌≡◌, List, replicate, take}
use Rattle.forms.specs.Shown.{Shows}
use Rattle.plain.specs.declared.structs.OzpText.{OzpText}
use Rattle.words.specs.Texts.{Told}

-- The parts of a page are shown in 98,304 bytes, one behind the other, and what they come to is the text that is told.
pub record Explained (parts : List (List ℕ)) (room : List ℕ) (r : OzpText) (room' : List ℕ) : Type 0 where
  pub after : List ℕ
  pub end : ℕ
  pub shows : Shows (replicate 98304 0) 0 parts after end
  pub told : Told (take (min end 98304) after) room r room'
