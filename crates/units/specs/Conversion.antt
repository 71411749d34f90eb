-- From yearly dollars of installed capacity to daily cents of unforced capacity.
-- Assumes nothing.
use Rattle.std.specs.Prelude.{ℕ, ◌-◌, ◌*◌}
use Rattle.laws.specs.Nearest.{nearest}

-- An amount in quarters of a dollar per MW-year, times 100, over 365, over (1 minus F/10,000), to the nearest cent: one
-- exact division. The outage rate F is in hundredths of a percent.
unfoldable pub daily_cents : ℕ → ℕ → ℕ
daily_cents quarter_dollars outage = nearest (quarter_dollars * 100 * 10000) (4 * 365 * (10000 - outage))
