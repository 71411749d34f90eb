-- What weights must meet to make a curve.
-- Assumes nothing.
use Rattle.std.specs.Prelude.{ℕ, ◌+◌, ◌*◌, ◌≤◌, ◌<◌}
use Rattle.curve.specs.declared.Weights.{Weights}

-- weights that make a curve of every requirement from 1,000 to 2,000,000 tenths; `whole` is 100 percent
pub record Usable (w : Weights) (whole : ℕ) : Type 0 where
  -- point 2 weighs the net cost no more than point 1
  pub second-most : w.second ≤ w.first
  -- point 1 weighs it by 1.75 at most
  pub first-most : w.first ≤ 7
  -- point 1 stands at more than nothing
  pub under-most : w.under < whole
  -- points 1 and 2 are a tenth or more apart at the least requirement
  pub first-apart : whole ≤ 1000 * (w.under + w.over)
  -- and so are points 2 and 3
  pub second-apart : whole + 1000 * w.over ≤ 1000 * w.last
  -- point 3 stands at 110 percent at most
  pub last-most : 10 * w.last ≤ whole
  -- a reserve margin adds 50 percent at most
  pub whole-most : whole ≤ 15000
