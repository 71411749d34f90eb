-- The row at the other side of the cut, as numbers.
-- Assumes nothing.
use Rattle.std.specs.Prelude.{ℕ, ◌≡◌, Bool, [], ◌∷◌}
use Rattle.std.specs.declared.option.Option.{Option}
use Rattle.turns.specs.declared.turn.Rival.{Rival}
use Rattle.rowlines.specs.declared.turn.Facing.{Facing}
use Rattle.rowlines.specs.Turn.{rival_numbers}

pub record Faces (edition : ℕ) (gets : Bool) (rival : Option Rival) (f : Facing) : Type 0 where
  pub numbers : f.named ∷ f.resource ∷ f.step ∷ f.resource ∷ f.decided ∷ [] ≡ rival_numbers edition gets rival
