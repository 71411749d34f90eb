-- The clearing price, or that there is none, as the code says it.
-- Assumes nothing.
use Rattle.std.specs.Prelude.{ℕ, Some, None}
use Rattle.std.proofs.Math.Option.{Option, none, some}
use Rattle.std.specs.declared.option.Option.{Option as Optional}
use Rattle.units.specs.declared.CentsPerMwDay.{CentsPerMwDay}

-- what a clearing says of its price: where nothing clears there is none, and none is no number
abbrev pub ClearingPrice : Type 0
ClearingPrice = Optional CentsPerMwDay

-- a price that may not be there, as the code says it
abbrev pub as_price : Option ℕ → ClearingPrice
as_price none = None
as_price (some p) = Some (record { 0 = p })
