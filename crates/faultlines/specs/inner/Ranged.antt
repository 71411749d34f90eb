-- A value beside its range, as numbers.
-- Assumes nothing.
use Rattle.std.specs.Prelude.{ℕ, ◌≡◌, not}
use Rattle.values.specs.Values.{held}
use Rattle.values.specs.declared.Value.{Value}
use Rattle.limits.specs.Parameters.{given_within}
use Rattle.wording.specs.Words.{as_one, given}
use Rattle.faultlines.specs.declared.wrong.Ranged.{Ranged}

pub record Ranges (low high : ℕ) (v : Value) (r : Ranged) : Type 0 where
  -- 1 where it is given
  pub givens : r.given ≡ as_one (given v)
  -- its number, and all ones where it is missing
  pub numbers : r.number ≡ held v
  -- 1 where it is out of the range
  pub outs : r.out ≡ as_one (not (given_within low high v))
