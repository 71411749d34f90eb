-- The level that the search finds.
-- Assumes nothing.
use Rattle.std.specs.Prelude.{◌≤◌}
use Rattle.auction.specs.Offers.{Offers}
use Rattle.auction.specs.Clearing.{cleared_total}
use Rattle.curve.specs.Price.{demand_of}
use Rattle.curve.specs.declared.Curve.{Curve}
use Rattle.levels.specs.inner.Stop.{StopsAt}
use Rattle.levels.specs.declared.level.Level.{Level}

-- what `cleared_level` promises of its level: the cleared total stops there, and is no more than the curve buys
abbrev pub ClearedAt : Curve → Offers → Level → Type 0
ClearedAt c o level = StopsAt o (cleared_total (demand_of c) o) level × (level.total ≤ c.q3)
