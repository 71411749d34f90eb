-- The offers of rows that stand side by side, and how much of them is offered.
-- Assumes nothing.
use Rattle.std.specs.Prelude.{ℕ, ◌≡◌, ◌≤◌, length}
use Rattle.auction.specs.Offers.{Offers, supply, supply_below}
use Rattle.levels.specs.declared.asks.Asks.{Asks}
use Rattle.levels.specs.inner.Rows.{listed}

-- the offers of all rows
abbrev pub offers_in : Asks → Offers
offers_in a = listed a.prices.now a.quantities.now (length a.prices.now)

-- what `supply_at` promises of its sum: it is all that is offered at the limit or below
abbrev pub OfferedAt : Offers → ℕ → ℕ → Type 0
OfferedAt o limit sum = (sum ≡ supply o limit) × (sum ≤ 120000000)

-- what `supply_below` promises of its sum: it is all that is offered strictly below the price
abbrev pub OfferedBelow : Offers → ℕ → ℕ → Type 0
OfferedBelow o price sum = (sum ≡ supply_below o price) × (sum ≤ 120000000)
