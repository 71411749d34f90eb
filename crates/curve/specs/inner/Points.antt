-- Terms that the code may make a curve of.
-- Assumes nothing.
use Rattle.std.specs.Prelude.{◌≤◌}
use Rattle.curve.specs.declared.Terms.{Terms}

-- terms within the ranges of the outline
pub record InRange (t : Terms) : Type 0 where
  pub cost-least : 1 ≤ t.cost.0
  pub cost-most : t.cost.0 ≤ 1000000
  pub offset-most : t.offset.0 ≤ t.cost.0
  pub outage-most : t.outage ≤ 5000
  pub requirement-least : 1000 ≤ t.requirement
  pub requirement-most : t.requirement ≤ 2000000
