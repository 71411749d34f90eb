-- What the weights and the whole of an edition are, with their ranges.
-- Assumes nothing.
use Rattle.std.specs.Prelude.{◌≡◌, Bool, ℕ, ◌≤◌}
use Rattle.curve.specs.declared.Weights.{Weights}
use Rattle.lines.specs.Points.{weights_of, whole_of}

-- the weights of an edition
pub record Selected (early : Bool) (w : Weights) : Type 0 where
  pub same : w ≡ weights_of early
  pub first-most : w.first ≤ 7
  pub second-most : w.second ≤ 7
  pub under-most : w.under ≤ 120

-- what stands for the requirement
pub record Whole (early : Bool) (margin whole : ℕ) : Type 0 where
  pub same : whole ≡ whole_of early margin
  pub least : 10000 ≤ whole
  pub most : whole ≤ 4294977295
