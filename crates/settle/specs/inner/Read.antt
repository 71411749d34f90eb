-- The price that a clearing quotes.
-- Assumes nothing.
use Rattle.std.specs.Prelude.{ℕ, Some, None}
use Rattle.std.proofs.Math.Option.{Option, none, some}
use Rattle.pricing.specs.Price.{ClearingPrice}

-- the price that a clearing quotes, if it quotes one
abbrev pub quoted : ClearingPrice → Option ℕ
quoted (Some cents) = some cents.0
quoted None = none
