-- Surplus, for the claim that no other choice is better, and what another choice of amounts may be.
-- Assumes nothing.
use Rattle.std.specs.Prelude.{ℕ, suc, ◌+◌, ◌*◌, ◌≤◌, ◌<◌}
use Rattle.laws.specs.Sum.{sum_to}
use Rattle.auction.specs.Offers.{Offers, Demand}

-- the curve prices at 1, 2, up to the total, summed
unfoldable pub worth : Demand → ℕ → ℕ
worth d t = sum_to (λ k. d.price (suc k)) t

-- the sum of the amounts
unfoldable pub total : Offers → (ℕ → ℕ) → ℕ
total o a = sum_to a o.count

-- each offer's price times its amount, summed
unfoldable pub cost : Offers → (ℕ → ℕ) → ℕ
cost o a = sum_to (λ i. o.price i * a i) o.count

-- amounts, each between nothing and the offered quantity, together no more than the curve's last point
pub record Choice (d : Demand) (o : Offers) (a : ℕ → ℕ) : Type 0 where
  pub within : (i : ℕ) → i < o.count → a i ≤ o.quantity i
  pub up_to : total o a ≤ d.last

-- amounts b leave no more surplus than amounts a: worth b − cost b ≤ worth a − cost a, said without subtraction
unfoldable pub NoMoreSurplus : Demand → Offers → (ℕ → ℕ) → (ℕ → ℕ) → Type 0
NoMoreSurplus d o b a = worth d (total o b) + cost o a ≤ worth d (total o a) + cost o b
