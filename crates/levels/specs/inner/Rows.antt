-- Offers as lists hold them: prices and quantities, which is all that the total and the price look at.
-- Assumes nothing.
use Rattle.std.specs.Prelude.{ℕ, ◌≤◌, ◌<◌, List, length, get_or}
use Rattle.auction.specs.Offers.{Offers}

-- n rows in two lists: both are long enough, there are at most 600, no quantity is over 200,000 and
-- no price over 1,000,000
pub record RowLists (prices quantities : List ℕ) (n : ℕ) : Type 0 where
  pub priced : n ≤ length prices
  pub sized : n ≤ length quantities
  pub few : n ≤ 600
  pub small : (i : ℕ) → i < n → get_or quantities i 0 ≤ 200000
  pub cheap : (i : ℕ) → i < n → get_or prices i 0 ≤ 1000000

-- the offers of two lists; the total and the price look at no stamp, no resource number and no step
abbrev pub listed : List ℕ → List ℕ → ℕ → Offers
listed prices quantities n =
    record {
      count = n;
      price = λ i. get_or prices i 0;
      quantity = λ i. get_or quantities i 0;
      stamp = λ i. 0;
      resource = λ i. 0;
      step = λ i. 0;
    }
